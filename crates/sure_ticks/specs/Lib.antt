pub mod Runs
pub mod Slots
pub mod Sure
pub mod Startable
pub mod Laws
