-- Listings: how bytes are cut, what a header says, how long what is printed is, that the per cent is the nearest, and how much of a listing
-- a line takes.
pub mod Cut
pub mod Headers
pub mod Written
pub mod Taken
pub mod Short
pub mod Nearest
pub mod Counted
pub mod Printed
