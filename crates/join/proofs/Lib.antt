-- Laws that the proofs of several functions cite.
pub mod Wires
pub mod Written
pub mod Joining
