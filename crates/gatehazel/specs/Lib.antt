-- What `decode` and `write` promise, beyond their own statements.
pub mod Demand3
pub mod Named
pub mod Rewritten
