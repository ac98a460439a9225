pub mod Windows
pub mod Walks
pub mod Bounds
pub mod Changes
pub mod Tables
