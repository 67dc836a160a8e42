-- Laws that the proofs of several functions cite.
pub mod Copies
pub mod Rows
pub mod Tabled
pub mod Fills
pub mod Rated
pub mod Gathers
pub mod Each
