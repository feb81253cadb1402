mod Asked
mod Endings
mod Ends
mod Opening
