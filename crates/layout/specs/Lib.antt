-- The store in memory: its words, what they are read as, and which buffers are sound.
pub mod Columns
pub mod Reading
pub mod Owners
pub mod Soundness
pub mod Children
pub mod OpsLeft
pub mod Families
pub mod Journal
pub mod MarkedReading
