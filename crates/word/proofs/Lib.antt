-- Laws that the proofs of several functions cite, and laws of words for the crates that stand on this one.
pub mod OfByte
pub mod Writing
pub mod Results
pub mod Locals
