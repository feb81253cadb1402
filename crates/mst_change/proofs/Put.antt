-- A tree after a put is the one of its pairs after it.
pub mod Trees
pub mod Steps
