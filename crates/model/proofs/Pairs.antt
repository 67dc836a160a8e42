-- Rates, reads, chains, and what an accepted pair keeps.
pub mod Rate
pub mod Lines
pub mod Decide
pub mod Hypercycle
pub mod Links
pub mod Verdict
pub mod Pigeons
pub mod Moves
