pub mod Fields
pub mod Batches
pub mod Grammar
pub mod Texts
pub mod Answers
