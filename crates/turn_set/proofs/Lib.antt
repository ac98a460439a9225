pub mod Histories
pub mod Views
pub mod Moves
pub mod Tries
pub mod Counted
pub mod Dealt
