-- What the code reads of a listing's line, and what it writes.
pub mod Pieces
pub mod Fields
pub mod Reading
pub mod Header
pub mod Parsing
pub mod Writing
pub mod Room
