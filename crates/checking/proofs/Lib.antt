-- Lemmas of the functions' proofs.
pub mod Tested
pub mod Passing
