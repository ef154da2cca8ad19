-- Renamed types: what they leave as it is, and the laws under a list of them.
pub mod Renamed
pub mod Under
pub mod Computed
