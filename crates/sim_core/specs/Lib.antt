pub mod Setup
pub mod Schedules
pub mod Positions
pub mod Drawn
