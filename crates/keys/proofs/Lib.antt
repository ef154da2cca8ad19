-- Why bytes, lists and steps of a walk that are put one after the other are put at once; the order of keys; what a call answers.
pub mod Putting
pub mod Entries
pub mod Comparing
pub mod LittleEndian
pub mod Shelling
pub mod CountBytes
pub mod Naming
pub mod Writing
pub mod Sizing
pub mod Lone
pub mod Answering
