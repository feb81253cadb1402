pub mod Bytes
pub mod Map
pub mod History
pub mod Edits
pub mod Layer
pub mod Digits
