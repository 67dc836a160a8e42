-- Laws that the proofs of several functions cite, and laws of well-formed images for the crates that stand on this one.
pub mod All
pub mod Parts
pub mod Lent
pub mod Walking
pub mod LentTail
