pub mod Table
pub mod Step
pub mod Chain
pub mod Laws
pub mod NearestLaws
pub mod LegalLaws
