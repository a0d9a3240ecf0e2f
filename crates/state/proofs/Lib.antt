pub mod Copied
pub mod Fits
pub mod FreshState
