-- What a change costs in rows, and how many rows a tree has.
pub mod NodeCounts
pub mod Sizes
