pub mod Lines
pub mod Reading
pub mod Runs
pub mod Driving
