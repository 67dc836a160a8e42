-- What the answers of the schedule reader stand for.
pub mod Arranged
pub mod Slots
