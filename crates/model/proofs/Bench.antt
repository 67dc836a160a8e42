-- Scripts and decimals.
pub mod Scripts
pub mod Decimals
