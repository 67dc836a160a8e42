-- What the load's functions stand for.
pub mod Load
