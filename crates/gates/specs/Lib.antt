pub mod Opened
pub mod Sizes
