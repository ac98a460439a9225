pub mod Reaching
pub mod Views
pub mod Seats
pub mod Moves
pub mod Gathering
