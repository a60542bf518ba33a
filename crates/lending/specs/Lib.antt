-- What tables that a program owns hold.
pub mod Owned
