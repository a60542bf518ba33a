-- What the contracts of the sections cite besides `inplace`, and theorems for their proofs.
pub mod Tables
pub mod Rows
pub mod Through
pub mod Header
pub mod States
pub mod Actions
pub mod Turning
pub mod Filling
pub mod Stops
