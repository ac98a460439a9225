pub mod Numbers
pub mod Chain
