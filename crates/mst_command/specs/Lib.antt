pub mod Loading
pub mod Recalling
pub mod Reading
pub mod Splits
pub mod Programs
