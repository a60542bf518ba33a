-- The words of document 02's R-1, laid over a lent output.
pub mod Laid
pub mod Parts
pub mod Sections
pub mod Whole
