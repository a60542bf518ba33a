-- The programs of `inplace` give what those of `format` give, laid out in the tables.
pub mod Forms
pub mod Rows
pub mod Chained
pub mod Edges
pub mod After
pub mod Sections
pub mod Flags
pub mod Stops
pub mod Sets
pub mod Words
pub mod Lists
pub mod Returns
pub mod Precedence
pub mod Whole
pub mod Derived
