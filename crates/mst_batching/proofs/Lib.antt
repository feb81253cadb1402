mod Batched
pub mod Prepared
