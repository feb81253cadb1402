pub mod CodeLaws
pub mod Meaning
pub mod TopLaws
pub mod WorkedCodes
