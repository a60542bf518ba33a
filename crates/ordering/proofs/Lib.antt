-- Lemmas of the functions' proofs, and of those that use them.
pub mod Tested
pub mod Heaps
mod Moves
