-- The laws of document 02's R-1: what is written is read again as it was, and when it is refused.
pub mod Formed
pub mod Tests
pub mod Takes
pub mod Parts
pub mod Edges
pub mod Reads
pub mod Whole
pub mod Plain
pub mod Laws
pub mod Found
pub mod Written
-- Refusal 15 as tests of the tables
pub mod Passes
pub mod All
pub mod Fine
pub mod Climbs
pub mod Checks
pub mod Held
pub mod SetsInRow
pub mod Bits
