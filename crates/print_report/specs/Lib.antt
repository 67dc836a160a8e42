-- What the bar of a cycle is.
pub mod Bar
