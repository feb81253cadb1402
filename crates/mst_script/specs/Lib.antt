pub mod Answers
pub mod Machine
pub mod Serving
pub mod Scripts
