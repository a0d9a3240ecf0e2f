-- What the public functions promise stands in the crate `definitions`. Here is what `all_sound` promises, for which it has no name, and what the helpers promise each other.
pub mod Tested
