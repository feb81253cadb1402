pub mod Words
pub mod Report
