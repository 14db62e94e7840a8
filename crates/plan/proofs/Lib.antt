pub mod Grouping
pub mod Sorting
pub mod Outcomes
