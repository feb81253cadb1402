pub mod Seats
pub mod Sent
pub mod Steps
pub mod Wholes
