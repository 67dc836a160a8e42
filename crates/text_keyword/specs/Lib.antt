-- The definitions that the contracts of `text_keyword` cite.
pub mod Cells
pub mod Written
