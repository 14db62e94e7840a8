pub mod Found
pub mod Covered
pub mod Apart
pub mod Order
pub mod Entered
pub mod SameTicks
pub mod Sums
