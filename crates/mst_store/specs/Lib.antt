pub mod Passes
pub mod Settling
pub mod Waiting
pub mod Preparing
