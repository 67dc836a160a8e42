-- Parts joined into one: what is lent, renumbered, one after another, by joined number, those with rows.
pub mod Lent
pub mod Renumbered
pub mod Parts
pub mod Numbers
pub mod Tabled
