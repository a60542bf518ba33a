-- Document 01, made formal: a file for each of its headings, in words close to its own; and document 02's requests that have landed.
-- "Reading order and fields" is Reading (how words are read and refused) and Sections (what each section reads).
pub mod Reading
pub mod Sets
pub mod Sections
pub mod Links
pub mod Places
pub mod Tables
pub mod Results
pub mod Kinds
pub mod Decode
pub mod Questions
-- R-1
pub mod Writing
pub mod Answers
-- Examples
pub mod Cases
pub mod WritingCases
