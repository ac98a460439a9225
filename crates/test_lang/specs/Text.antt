-- The text of a test: its lines and numerals, its grammar, and how a text is refused.
pub mod Line
pub mod Numeral
pub mod Form
pub mod Grammar
pub mod Reading
pub mod Refusal
pub mod Answer
