pub mod Each
pub mod Growing
pub mod Joining
pub mod OneTally
pub mod PlacedRows
pub mod Putting
pub mod RowsInLine
pub mod Shrinking
