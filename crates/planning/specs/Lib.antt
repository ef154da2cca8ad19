-- A merge plan for a form: which operations another one stands for, and which go with those; its laws, and cases.
pub mod Plan
pub mod PlanLaws
pub mod Redirects
pub mod PlanWork
pub mod PlanCases
