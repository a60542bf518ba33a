-- The words of a dialect file's bytes.
pub mod Bytes
