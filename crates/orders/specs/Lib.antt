pub mod Paths
pub mod Orders
pub mod Choices
pub mod Cycles
pub mod Reductions
