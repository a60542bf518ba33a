-- How a table is held to stored words.
pub mod Compare
