pub mod Blocks
pub mod Staging
pub mod Writing
pub mod Counting
