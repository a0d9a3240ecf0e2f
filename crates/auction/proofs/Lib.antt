pub mod Chosen
pub mod Laws
pub mod Promised
