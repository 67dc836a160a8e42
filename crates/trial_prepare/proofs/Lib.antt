-- Laws that the proofs of several functions cite.
pub mod Begins
pub mod Promises
