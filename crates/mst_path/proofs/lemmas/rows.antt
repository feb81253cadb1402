-- Rows that are taken, killed, kept and counted.
pub mod Taking
pub mod Entries
pub mod Moving
pub mod FreeCounts
pub mod RowCounts
pub mod CopyRows
pub mod Copies
pub mod CopyRuns
