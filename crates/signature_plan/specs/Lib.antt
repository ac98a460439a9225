pub mod Words
pub mod Fitting
pub mod Cuts
pub mod Rows
pub mod Outcomes
