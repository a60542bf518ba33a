-- Lemmas of the functions' proofs.
mod Reading
