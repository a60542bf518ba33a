-- Lemmas of the functions' proofs, over plain numbers, words and lists.
pub mod Signs
pub mod Walking
pub mod Inside
pub mod Meeting
