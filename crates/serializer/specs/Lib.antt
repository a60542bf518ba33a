-- What the whole of a writing comes to.
pub mod Tests
pub mod Exactly
