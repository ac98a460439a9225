pub mod Outcomes
pub mod OutcomeLaws
pub mod Tallies
pub mod Joining
pub mod Counting
pub mod Rows
pub mod Histories
