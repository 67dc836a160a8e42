-- Laws that the proofs of several functions cite.
pub mod Puts
pub mod Endings
pub mod Arranged
