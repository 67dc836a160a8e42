-- What a conversion keeps.
pub mod Convert
pub mod Conversion
