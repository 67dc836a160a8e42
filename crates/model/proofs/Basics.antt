-- Tests, lists, outcomes, and parts of a buffer.
pub mod Tests
pub mod Order
pub mod All
pub mod Outcomes
pub mod Left
