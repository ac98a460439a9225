pub mod Bits
pub mod Waiting
pub mod Ready
pub mod Scratch
pub mod Levels
pub mod Finishing
pub mod Components
