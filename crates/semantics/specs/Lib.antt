-- What it is that two equal fragments do the same of: meanings, the machine that runs fragments, isomorphic fragments, and the laws.
pub mod Meaning
pub mod Machine
pub mod Isomorphic
pub mod SameWork
pub mod Copies
pub mod Replaced
pub mod BlockRuns
pub mod WorkCases
