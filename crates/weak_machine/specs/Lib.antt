pub mod NodeSets
pub mod Waiting
pub mod Lists
pub mod Progress
pub mod Standing
pub mod Machine
