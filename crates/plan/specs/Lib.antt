pub mod Arranged
pub mod ByClass
pub mod PlanContents
