-- What the public functions promise stands in the crate `definitions`. Here is what their helpers promise each other.
pub mod Place
