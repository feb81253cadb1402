pub mod Options
pub mod Loads
pub mod Commanding
