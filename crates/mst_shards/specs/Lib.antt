pub mod BlockHistory
pub mod Directory
pub mod Entries
pub mod Laid
pub mod Opening
pub mod Parts
pub mod Ranging
pub mod Sharding
