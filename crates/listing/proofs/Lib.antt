-- Why a listing is printed as the rules print it, line by line, and why its tally counts what the rules count.
pub mod Including
pub mod Counts
pub mod Empty
pub mod Alike
pub mod Tallies
pub mod Turns
mod Emptied
mod Built
mod Hashes
mod Steps
mod Runs
mod Whole
mod Verdicts
