pub mod Question
pub mod Codes
pub mod Top
pub mod Told
pub mod Worked
