pub mod Answers
pub mod States
pub mod Opening
pub mod Serving
