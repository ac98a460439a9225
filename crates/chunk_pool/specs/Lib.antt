pub mod Verdicts
pub mod Chunks
pub mod Shares
pub mod Tasks
pub mod Gathered
