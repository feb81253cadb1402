-- Trees after a remove.
pub mod Trees
pub mod Steps
