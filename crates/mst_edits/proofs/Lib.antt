pub mod Rising
pub mod Merges
pub mod Joins
pub mod Parts
pub mod MergeSteps
pub mod JoinSteps
pub mod Halves
