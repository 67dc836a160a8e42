-- Laws that the proofs of several functions cite.
pub mod Alike
pub mod Chain
pub mod Hops
-- Laws of the least bound.
pub mod Bounds
