-- What the code asks of the tables, and theorems about the definitions of `inplace` as the code goes by them.
pub mod Lent
pub mod Numbers
pub mod Chains
pub mod Returns
pub mod Precedence
