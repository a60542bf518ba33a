-- The bytes of words that are put out.
pub mod Counts
pub mod Spelled
