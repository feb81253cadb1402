pub mod Laws
pub mod Line
pub mod Replay
pub mod Reply
pub mod Rest
