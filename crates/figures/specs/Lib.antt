pub mod Bounded
pub mod Printed
