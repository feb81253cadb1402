pub mod RisingKeys
pub mod TreeEquation
pub mod UniqueTree
pub mod LayersByPlace
mod Heights
pub mod NodeShapes
pub mod TopNodes
pub mod TextBuffers
pub mod ReadIsSpelled
pub mod SpelledIsRead
pub mod BytesAfterEntries
pub mod EntryPlaces
pub mod FittingKeys
pub mod KeyPlaces
pub mod GrammarIsRead
pub mod ScannedEntries
pub mod Stops
pub mod Scans
pub mod FirstWords
pub mod TreeOrder
pub mod Frames
pub mod MapTextsInGrammar
pub mod WorkedTexts
mod WorkedStays
pub mod LayersBelow
mod Empty
pub mod SameTrees
pub mod InTrees
pub mod Distinct
mod VersionLists
pub mod Weights
pub mod HeldLaws
pub mod FormatsShareNothing
pub mod Names
