-- The bytes of an image, its codes and counts, what is lent with a tail, and what a cycle keeps.
pub mod Bounds
pub mod Stretches
pub mod Runs
pub mod Counts
pub mod Formed
pub mod Tails
pub mod Cycles
