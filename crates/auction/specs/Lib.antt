pub mod Turns
pub mod Scratch
