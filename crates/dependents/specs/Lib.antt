-- Marks by signal, as bytes.
pub mod Marks
