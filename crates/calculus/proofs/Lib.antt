pub mod Bounded
pub mod Lasts
pub mod Cycles
pub mod Counts
pub mod Sets
pub mod First
