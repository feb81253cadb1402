pub mod Shards
pub mod Frame
pub mod Verdict
pub mod Theorem
pub mod Accepted
pub mod Faults
pub mod Auditing
pub mod Audit
