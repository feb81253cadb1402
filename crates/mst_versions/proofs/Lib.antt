pub mod Fields
pub mod Asked
mod SweptLives
pub mod Slots
pub mod Asking
pub mod Beginning
mod Places
pub mod Pinning
pub mod Filing
pub mod Ready
pub mod Made
pub mod Shown
pub mod Written
mod Migrated
pub mod Undone
mod Counted
mod Listed
pub mod FewRows
pub mod Names
