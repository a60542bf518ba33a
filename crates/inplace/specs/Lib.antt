-- What the decoder's code does, word by word: the reading programs of `format` over flat lent tables.
-- Nobody has to believe this: the code is proved equal to it, and it is proved equal to `format`.
pub mod Held
pub mod Rows
pub mod Sections
pub mod Sets
pub mod Links
pub mod Whole
