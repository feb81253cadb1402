-- A tree split at a key is the two trees of the pairs below and above it.
pub mod Pairs
pub mod Trees
pub mod Steps
