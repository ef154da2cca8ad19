-- Extents: how large the key of a fragment will be, and how deep the fragment is nested.
pub mod Deepest
pub mod Inside
pub mod Depths
pub mod Nesting
pub mod Lengths
pub mod Paired
pub mod Laws
pub mod Computed
