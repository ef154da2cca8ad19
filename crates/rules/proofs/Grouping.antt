-- Independence and the twins among a store's operations: the test is the premise of the laws, the premise goes along with equality, and so
-- merging twins is consistent.
pub mod Independent
pub mod Shared
pub mod Along
pub mod Twins
pub mod Groups
pub mod Computed
