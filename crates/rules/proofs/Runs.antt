-- Repeated runs: what the search finds, and why the window and the test of first operands miss nothing.
pub mod Searched
pub mod Windows
pub mod FirstUses
pub mod Sums
pub mod Answered
pub mod Computed
