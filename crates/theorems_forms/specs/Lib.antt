-- The text form: what it says, where it stops, its words.
pub mod TextForms
pub mod TextStops
pub mod TextWords
