-- What the operators give, when bytes are an image, what a run of one leaves, what compile writes.
pub mod Nearest
pub mod Operators
pub mod Height
pub mod Stretches
pub mod WellFormed
pub mod Runs
pub mod Images
pub mod Tables
