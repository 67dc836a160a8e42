-- What texts that are lent keep.
pub mod Lent
