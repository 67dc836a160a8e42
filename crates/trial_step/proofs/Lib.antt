-- Laws that the proofs of several functions cite.
pub mod Left
pub mod Filling
pub mod Seeks
pub mod Fills
