pub mod Bounds
pub mod Means
