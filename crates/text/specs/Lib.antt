pub mod Marks
pub mod Cuts
pub mod Numerals
pub mod Keys
