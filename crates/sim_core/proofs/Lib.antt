pub mod BelowLists
pub mod MemoryAfter
pub mod LoadsAfter
pub mod PlaysOn
pub mod NextOperations
pub mod Playing
pub mod NoAlarm
pub mod DrawnPlays
