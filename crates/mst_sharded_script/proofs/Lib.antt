pub mod Giving
pub mod Loading
pub mod Opened
pub mod Stepping
pub mod Names
