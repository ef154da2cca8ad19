-- What the search for repeated runs knows of a block before it compares, what it compares, and what a call answers.
pub mod Powers
pub mod Windows
pub mod Walked
pub mod Calls
