-- What the sums over runs stand for.
pub mod Raised
