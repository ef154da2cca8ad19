-- When a fragment reaches into another, what is known of a store's operations before they are compared, and what the calls give.
pub mod Reaching
pub mod Twins
pub mod Calls
