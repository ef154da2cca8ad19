-- Copies of operations: the store with the copy is sound, and the copy is the original's twin.
pub mod Renumbered
pub mod Walked
pub mod Inside
pub mod Shelled
pub mod Within
pub mod Amounts
pub mod Tables
pub mod Children
pub mod Kept
pub mod Depths
pub mod Along
pub mod Named
pub mod Early
pub mod UnderTypes
pub mod Moved
pub mod Twin
pub mod Laws
