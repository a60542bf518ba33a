-- Lemmas of the functions' proofs.
mod Rows
mod Words
mod Flags
mod Cuts
