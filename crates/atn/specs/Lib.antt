-- The tail calls of lent tables.
pub mod Records
pub mod Chains
pub mod Own
pub mod Search
pub mod Networks
pub mod Steps
pub mod Visits
pub mod Marks
pub mod Rows
pub mod Accepted
