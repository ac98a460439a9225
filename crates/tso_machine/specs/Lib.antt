pub mod Queues
pub mod Moments
pub mod Places
pub mod Moves
