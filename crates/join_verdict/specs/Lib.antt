-- What all checks of a join answer.
pub mod Verdict
