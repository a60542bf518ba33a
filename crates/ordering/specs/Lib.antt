-- Records that change places, and heaps of them.
pub mod Records
pub mod Heaps
