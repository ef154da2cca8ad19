-- Why a window's sum may be taken from hashes made once and a table of powers, why starts of one sum are enough, and why the search finds what the
-- rules find.
pub mod Fed
pub mod Summed
pub mod Weights
pub mod Kept
pub mod Listed
pub mod Compared
pub mod Searched
pub mod FirstOperands
pub mod Answering
