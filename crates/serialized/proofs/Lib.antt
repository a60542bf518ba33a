pub mod Lending
pub mod Roomed
