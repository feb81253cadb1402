-- The steps of a change: what stands after each, up to the whole of it.
pub mod Steps
pub mod Felling
pub mod Framing
pub mod Rounds
pub mod Removals
pub mod Finishing
pub mod Seams
pub mod Untouched
pub mod Whole
pub mod MadeWithEntry
pub mod Sides
pub mod Splitting
pub mod SplitSides
pub mod NewEntry
pub mod PutGaps
pub mod PutFrames
