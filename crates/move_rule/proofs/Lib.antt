-- Laws of narrowing.
pub mod Narrowings
pub mod Limits
