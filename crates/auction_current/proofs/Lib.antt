pub mod Held
pub mod Kept
pub mod Added
pub mod Taken
