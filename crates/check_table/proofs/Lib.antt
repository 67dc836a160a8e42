-- What the tables of a program say of its rows.
pub mod Covered
