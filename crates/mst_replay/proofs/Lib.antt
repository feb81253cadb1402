pub mod Blanks
pub mod FaultLines
pub mod Numbers
pub mod RowLists
pub mod Worked
pub mod WorkedLines
pub mod Names
