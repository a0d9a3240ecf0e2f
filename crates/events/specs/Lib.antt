pub mod Kinds
pub mod Readings
