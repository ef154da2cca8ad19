-- That equal fragments do the same work.
pub mod WorkComputed
pub mod Images
pub mod Below
pub mod Simulation
pub mod IsomorphicWork
pub mod Going
pub mod Pairwise
pub mod Parted
pub mod Found
pub mod Timely
pub mod Along
pub mod Laws
pub mod Copies
pub mod Replaced
pub mod RunEvents
pub mod BlockRuns
