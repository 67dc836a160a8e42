-- What the joined checks ask and answer.
pub mod Whole
