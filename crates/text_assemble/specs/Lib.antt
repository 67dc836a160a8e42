-- The definitions that the contracts of `text_assemble` cite.
pub mod Assembled
