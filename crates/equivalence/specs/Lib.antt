-- What a lent mapping's words are read as; what is compared of two operations or two blocks; what is walked through, and what a comparison answers.
pub mod MappingWords
pub mod Unmapping
pub mod Slots
pub mod Rows
pub mod Compares
pub mod Walked
pub mod Calls
