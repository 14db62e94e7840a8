pub mod Walks
pub mod LineRuns
pub mod RunSlots
pub mod Gathers
pub mod Meets
pub mod Turned
pub mod OfPlans
pub mod Lowers
