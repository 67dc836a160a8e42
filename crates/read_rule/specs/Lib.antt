-- What the functions on one read stand for.
pub mod Lines
pub mod Reads
