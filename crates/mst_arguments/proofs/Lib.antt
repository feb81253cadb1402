pub mod PlainWords
pub mod WordByWord
