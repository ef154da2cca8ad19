-- Bytes of a key put into lent bytes, the order of keys, what is written of a fragment, and what a call answers.
pub mod Put
pub mod Order
pub mod Written
pub mod Extents
pub mod Calls
