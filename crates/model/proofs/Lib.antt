-- The laws of the definitions that code cites.
pub mod Basics
pub mod Texts
pub mod Pairs
pub mod Rows
pub mod Joining
pub mod Images
pub mod Bench
