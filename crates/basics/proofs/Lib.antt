-- Laws that the proofs of several crates cite.
pub mod Judgements
