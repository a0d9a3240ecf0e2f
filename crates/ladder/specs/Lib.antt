pub mod Bands
pub mod Ladder
