-- Lemmas of the functions' proofs.
mod Members
mod Sweep
mod Normal
mod Halving
