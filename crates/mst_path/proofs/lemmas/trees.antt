-- Trees that stand in rows: their nodes and gaps, joined, separated and searched.
pub mod Nodes
pub mod Growing
pub mod Opening
pub mod NodeRuns
pub mod Meetings
pub mod Joined
pub mod Parting
pub mod Heights
pub mod Lookups
pub mod Made
pub mod Cutting
