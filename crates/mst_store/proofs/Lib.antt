mod FewPairs
mod FromSeats
pub mod Lawful
pub mod Courier
pub mod AllPasses
mod Waits
pub mod Names
