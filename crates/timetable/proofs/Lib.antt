-- What the tables of a pair tell.
pub mod Tabled
