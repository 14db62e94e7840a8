pub mod Curves
pub mod Meanings
pub mod Rises
pub mod Sweeps
