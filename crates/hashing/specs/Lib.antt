-- The hash on lent words: what is fed, and what a call answers.
pub mod Walked
pub mod Calls
pub mod Chains
