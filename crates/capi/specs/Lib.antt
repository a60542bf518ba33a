-- What the C interface hands over.
pub mod Handed
pub mod Places
pub mod Written
