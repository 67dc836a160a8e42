-- What the emitter writes, by the tables that it is given.
pub mod Codes
pub mod Cursors
pub mod Layout
pub mod Lists
pub mod Rows
pub mod Tail
