pub mod Walks
pub mod OfPlan
pub mod Turns
pub mod Listed
pub mod Beginnings
