-- Demands 2 and 3 over the code, that a mapping may be lent again, the filer's law, the laws of the mapping that is filed, and the same work.
pub mod Answers
pub mod Demand2
pub mod Lending
pub mod Filing
pub mod Mapped
pub mod Work
