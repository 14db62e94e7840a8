pub mod Cutting
pub mod Digit
pub mod Keyed
