pub mod Choosing
pub mod Executing
pub mod Opening
pub mod Fields
pub mod Listing
