-- Keys: they can be read back, so that the same key tells equal fragments; equal fragments have the same key.
pub mod Decoding
pub mod Fitting
pub mod Paired
pub mod Parts
pub mod Reading
pub mod Writing
pub mod Order
pub mod Filed
pub mod Kept
pub mod Longest
pub mod Given
pub mod Computed
