mod Returning
mod Working
mod Listening
mod Kept
mod Left
mod Counting
mod Merged
mod FewRows
mod FewKeys
mod NoneRefused
pub mod Names
