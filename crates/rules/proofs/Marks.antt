-- Marks to go back to: what every call keeps, and what going back gives.
pub mod Accepted
pub mod Lists
pub mod Ordered
pub mod Kept
pub mod Laws
pub mod WentBack
pub mod Computed
