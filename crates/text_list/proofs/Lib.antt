-- Laws of the lister.
pub mod Writes
pub mod Walk
