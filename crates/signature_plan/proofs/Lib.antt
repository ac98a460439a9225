mod Blocks
pub mod Radix
pub mod Concat
pub mod Groups
pub mod GroupRows
pub mod AllLoads
pub mod Reading
pub mod Meaning
pub mod LongestCuts
pub mod OneCut
pub mod GroupTables
pub mod RankLoads
pub mod WritingRuns
mod Inverses
mod InsideRanks
