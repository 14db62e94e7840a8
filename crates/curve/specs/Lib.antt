pub mod Curve
pub mod Table
pub mod Laws
