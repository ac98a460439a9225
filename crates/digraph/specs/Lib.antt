pub mod Digraph
pub mod AtHand
pub mod KeyList
pub mod LinkRows
pub mod Marks
pub mod Roomed
