-- Plays of a test on machines: lists of steps, each enabled after those before it.
pub mod States
pub mod Faults
pub mod Machines
pub mod Plays
pub mod Choices
pub mod Explanations
