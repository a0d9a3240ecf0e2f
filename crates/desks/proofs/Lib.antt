pub mod Laws
pub mod ClosedUp
pub mod AtPlace
