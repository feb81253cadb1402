pub mod Batching
pub mod Blanks
pub mod Numbers
pub mod Dealing
pub mod Pairs
pub mod Digits
pub mod Worked
pub mod Names
