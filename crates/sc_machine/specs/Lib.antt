pub mod Threads
pub mod Standing
pub mod Machine
