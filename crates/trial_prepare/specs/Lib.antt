-- How a trial starts.
pub mod Prepares
