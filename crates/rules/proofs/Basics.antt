-- Tests and lists.
pub mod Tests
pub mod Counts
pub mod Distinct
pub mod Pigeons
pub mod Appended
pub mod Entries
pub mod Filtered
pub mod Cut
pub mod Modulo
