-- Lemmas about trees that stand in rows, by theme.
pub mod rows
pub mod trees
pub mod steps
pub mod cost
pub mod versions
