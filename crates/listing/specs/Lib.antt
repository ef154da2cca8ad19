-- What the code does for a listing and its tally, as what the rules say of it.
pub mod Tally
pub mod Progress
pub mod Building
pub mod Asking
pub mod Stepping
pub mod Calls
