-- Whether a fragment reaches into another is told step by step, and by it whether two are independent; and what a call answers.
pub mod ByParts
pub mod Apart
pub mod Searched
pub mod Words
pub mod Answering
