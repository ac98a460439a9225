pub mod ByRank
pub mod Loads
pub mod Tables
