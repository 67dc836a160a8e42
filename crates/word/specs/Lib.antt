-- The operator of a byte.
pub mod OfByte
