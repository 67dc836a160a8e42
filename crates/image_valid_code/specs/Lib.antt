-- What the check of a code knows of a command.
pub mod Shape
