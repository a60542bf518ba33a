-- The tests of this crate, as they read the lent words, and what they say of the records that the tables hold.
pub mod Given
pub mod Chains
pub mod Stops
pub mod Returns
pub mod Marks
pub mod Decisions
pub mod Linked
pub mod Joined
pub mod Met
pub mod Marked
