-- A lent buffer's marks: one row after the other, and all of them together.
pub mod Fitting
pub mod Resting
pub mod Step
pub mod Numbers
pub mod Younger
pub mod Reached
pub mod Whole
pub mod Marks
pub mod Offering
