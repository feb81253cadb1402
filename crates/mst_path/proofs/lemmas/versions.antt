-- What a change, an advance and a sweep leave of each version, and how old rows are.
pub mod Versions
pub mod Reached
pub mod NodeSums
pub mod NodeAges
pub mod KeyAges
pub mod AgeSteps
pub mod Migrated
pub mod HeldRows
pub mod KeptRoom
pub mod Changes
pub mod Removed
pub mod Inserted
