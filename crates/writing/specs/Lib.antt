pub mod Written
pub mod Inverse
