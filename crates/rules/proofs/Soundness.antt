-- What soundness says, and that every building call keeps it.
pub mod Sound
pub mod Children
pub mod Grown
pub mod Accepted
pub mod KeptAttributes
pub mod NewValues
pub mod KeptNewOperation
pub mod KeptNewBlock
pub mod KeptSet
pub mod Kept
pub mod Room
pub mod Complete
