-- What the converter's code tells of a listing, as what the rules say of it.
pub mod Parts
pub mod Testing
pub mod Writing
pub mod Calls
