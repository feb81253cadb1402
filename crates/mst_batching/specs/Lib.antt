pub mod Applying
pub mod Preparing
