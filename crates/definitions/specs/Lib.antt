-- Paper 01, and paper 02 as far as it has landed, as definitions, each file after those that it names. A file is named for its place in paper 01; what comes from
-- paper 02 says so where it stands.
pub mod Lists
pub mod Codes
pub mod State
pub mod Sound
pub mod Events
pub mod Desks
pub mod Securities
pub mod Changes
pub mod Ranges
pub mod Rules
pub mod Refusals
pub mod Answers
pub mod Gate
pub mod Lone
pub mod Walk
