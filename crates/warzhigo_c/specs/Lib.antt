--
pub mod Codes
