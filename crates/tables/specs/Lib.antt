-- Words of the lent tables.
pub mod Words
pub mod Records
