-- That a merge plan is consistent, and saves what it says.
pub mod Told
pub mod Under
pub mod Laws
pub mod Sizes
pub mod Count
pub mod Words
pub mod Redirecting
pub mod Results
pub mod Leading
pub mod PlanComputed
pub mod Rule
pub mod Work
