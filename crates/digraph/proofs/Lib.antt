pub mod Last
mod Linking
pub mod Marks
mod Ends
mod Viewed
pub mod AtHand
mod WholeGraph
mod LinkRows
