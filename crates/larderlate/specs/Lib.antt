-- What the answers of the C calls stand for.
pub mod Code
