mod Digits
mod Walk
mod Counts
mod Whole
mod SummaryLines
