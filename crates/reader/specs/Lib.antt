pub mod Chain
pub mod Contents
pub mod Views
pub mod Moves
pub mod Fields
pub mod Entries
pub mod Reading
pub mod Parsed
