pub mod Bases
pub mod CandidateLaws
pub mod Finds
mod Listing
pub mod LoadCandidates
mod PlaceRows
pub mod RunLemmas
mod TableReads
pub mod ThreadNodes
