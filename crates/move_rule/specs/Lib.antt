-- What a move keeps, and the phases that are left.
pub mod Ranges
pub mod Narrowing
