pub mod Reached
pub mod Rule
pub mod Steps
pub mod Racers
pub mod Tasks
pub mod Interleavings
