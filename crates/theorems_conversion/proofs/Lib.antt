-- The converter: on trees, on bytes, and twice.
pub mod Converted
pub mod Rewritten
pub mod Unchanged
pub mod OnText
pub mod Conversions
pub mod ConvertNumbers
