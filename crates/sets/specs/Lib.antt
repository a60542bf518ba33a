-- Reading the sets into the range table and the set table: what the answers say, a set's part, one set.
pub mod Answers
pub mod Merging
pub mod Sets
