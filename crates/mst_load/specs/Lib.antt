pub mod Calls
pub mod Lines
pub mod Listening
pub mod Reports
pub mod Stores
pub mod Workers
