mod Fronts
pub mod WordLemmas
