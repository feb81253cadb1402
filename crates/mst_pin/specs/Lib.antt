pub mod Core
pub mod Laws
pub mod State
pub mod WordParts
pub mod Words
