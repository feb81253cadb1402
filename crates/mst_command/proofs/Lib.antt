pub mod Fresh
mod Inputs
pub mod Splitting
