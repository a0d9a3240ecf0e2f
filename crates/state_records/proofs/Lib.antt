pub mod Laws
pub mod SearchLaws
