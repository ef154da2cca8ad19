-- Why the multiplication is right, why a number may be fed by its halves, that to feed steps one after the other is to feed them all, that
-- rows are read as what they are of, and that a walk feeds all steps of a fragment.
pub mod Columns
pub mod Halves
pub mod Feeding
pub mod Parting
pub mod Reading
pub mod Naming
pub mod Lone
pub mod Answering
pub mod Zeros
pub mod Bytes
pub mod Linking
pub mod Tried
