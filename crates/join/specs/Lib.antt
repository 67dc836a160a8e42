-- What the writer of a join is given.
pub mod Ready
