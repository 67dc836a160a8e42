-- The rows of a join.
pub mod Rows
