mod Filters
mod Spread
mod Calls
mod Chains
mod Places
mod Served
mod Whole
mod Times
mod Notes
mod TwoCalls
mod ToldCalls
mod Points
mod Within
mod TwoOrders
mod InBlocks
pub mod Names
