-- Laws of lines, numerals and the text of a test.
pub mod Choices
pub mod FirstLine
pub mod Lines
pub mod Digits
pub mod Numerals
pub mod Forms
pub mod Judging
pub mod Bodies
pub mod Walking
pub mod Passing
pub mod LinesRead
pub mod Readings
pub mod SoFar
pub mod Heads
pub mod Printing
pub mod Answering
