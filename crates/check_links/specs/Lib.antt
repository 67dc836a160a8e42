-- What the check of links stands on.
pub mod Links
