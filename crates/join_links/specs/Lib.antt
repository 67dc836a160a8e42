-- The signals of the parts by part and number.
pub mod ByPart
