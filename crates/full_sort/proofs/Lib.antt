mod Sums
mod Words
mod Summed
mod Walk
mod WalkSteps
mod Marked
mod Edges
mod Free
mod State
mod Placing
mod Cleaning
pub mod LevelSteps
mod Touching
pub mod LevelLists
pub mod Pigeons
pub mod Measured
pub mod Descents
mod EdgeWalks
mod Ticks
mod OpenSums
mod ComponentTicks
mod SearchTicks
mod ListsOf
mod Searches
mod SearchArrays
mod Numbering
mod ComponentLaws
mod ComponentSteps
pub mod LeastCycles
mod Counted
mod Gained
mod Without
mod Releases
mod Holding
mod Raises
