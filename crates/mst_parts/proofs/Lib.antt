pub mod Canceled
pub mod Coming
pub mod Concluded
pub mod PartsCommitted
pub mod Rooms
pub mod Sent
pub mod Names
