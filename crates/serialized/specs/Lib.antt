-- The whole decode: rooms, sections in order, and what is then answered and left in the tables.
pub mod Rooms
pub mod Kept
pub mod Within
pub mod Lent
pub mod Assembled
pub mod Answered
