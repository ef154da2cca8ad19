-- The index of a list of renamed types; fragments, what an ignore rule leaves of them, and the order of a walk; walk numbers in words.
pub mod Index
pub mod OneIndex
pub mod Ignoring
pub mod Options
pub mod View
pub mod Rows
pub mod Order
pub mod BlocksLeft
pub mod SlotsLeft
pub mod Inside
pub mod Sizes
pub mod Words
pub mod Numbered
pub mod Parts
