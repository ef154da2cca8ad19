-- Walks: their levels, where they stay, their answers, how far they count, what they keep, and what lies in a fragment.
pub mod Walks
pub mod Levels
pub mod Enough
pub mod EnoughSteps
pub mod Stays
pub mod Answered
pub mod Paired
pub mod Keeping
pub mod Inside
pub mod ByParts
pub mod Allowed
pub mod Entered
pub mod Computed
