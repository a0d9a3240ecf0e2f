-- Paper 02, requests 5 to 7, as definitions.
pub mod Answers
pub mod Auction
pub mod Volumes
pub mod Current
