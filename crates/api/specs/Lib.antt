-- What the offered calls answer, and lists of them made one after the other.
pub mod Building
pub mod Calls
pub mod Copies
