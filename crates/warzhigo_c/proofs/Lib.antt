-- What crosses stands for what the calls answer.
mod Indexing
mod Converting
pub mod CauseNumbers
