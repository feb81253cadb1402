pub mod Parts
pub mod Split
pub mod Join
pub mod Put
pub mod Remove
pub mod Cost
pub mod Gap
pub mod Batch
