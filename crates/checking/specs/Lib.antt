-- The tests of tables, made one record after the other.
pub mod Pass
pub mod Rows
pub mod States
pub mod Kept
