pub mod Commanded
pub mod Tasks
