-- The rows of a table: words as levels, spans of levels, the rule, what the tests decide, the order, the bytes.
pub mod Levels
pub mod Spans
pub mod Rule
pub mod Decided
pub mod Sorted
pub mod Area
pub mod Spelled
