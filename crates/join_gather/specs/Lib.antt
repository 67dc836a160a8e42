-- What is joined of the parts, by joined number and by part.
pub mod Joint
pub mod Rates
pub mod Rows
pub mod Gathering
