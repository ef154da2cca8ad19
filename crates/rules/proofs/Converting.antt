-- The converter: what it writes is a listing of the other edition, with the same output, and converts back.
pub mod Joined
pub mod Meanings
pub mod Fields
pub mod Lines
pub mod Refused
pub mod Whole
pub mod Ready
pub mod Laws
pub mod Computed
