pub mod Search
pub mod Span
