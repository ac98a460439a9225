pub mod Jobs
pub mod Runners
