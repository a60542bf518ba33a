-- What a set keeps in its part of the range table, how `normalize` comes to that, and what its callers need of it.
pub mod Laid
pub mod Words
pub mod Joining
