-- The Rust's own text, held to 01: comparison and hash.
pub mod Attributes
pub mod Shells
pub mod Comparison
pub mod Numbering
pub mod Hash
