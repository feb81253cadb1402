-- Two trees joined are the tree of all their pairs.
pub mod Trees
pub mod Steps
