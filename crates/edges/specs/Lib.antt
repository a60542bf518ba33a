-- What the contracts of the edges cite besides `format` and `inplace`, and theorems for their proofs.
pub mod Lent
pub mod Edge
pub mod Kinds
pub mod Laws
