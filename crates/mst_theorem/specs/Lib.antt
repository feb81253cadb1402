pub mod Headline
pub mod ByContract
pub mod Time
pub mod Shown
pub mod InBlocks
