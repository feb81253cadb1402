pub mod Agreeing
pub mod Numbers
pub mod Reading
pub mod Tries
