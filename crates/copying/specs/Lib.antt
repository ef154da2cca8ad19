-- Copies in memory: the steps of a walk as words, what is written owner by owner, and what the call answers.
pub mod Steps
pub mod Totals
pub mod Images
pub mod Partial
pub mod Written
pub mod Cloned
