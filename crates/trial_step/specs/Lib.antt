-- A trial under way.
pub mod Underway
