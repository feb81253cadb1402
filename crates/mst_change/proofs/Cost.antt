-- Which nodes a change makes new, and the rows that they take.
pub mod Home
pub mod Fresh
pub mod Split
pub mod Join
pub mod Put
pub mod Remove
pub mod Bounds
