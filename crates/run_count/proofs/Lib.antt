pub mod SoFar
pub mod Joining
pub mod Whole
pub mod FewPieces
