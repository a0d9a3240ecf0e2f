-- What is taken out of the words and put back stands in the crate `definitions`. Here is what a look for a number ends at.
pub mod Search
