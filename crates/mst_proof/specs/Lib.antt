pub mod Frame
pub mod Verdict
pub mod Accepted
pub mod Theorem
pub mod Beside
pub mod Spans
pub mod Faults
