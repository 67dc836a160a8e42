-- The code of a part, command after command.
pub mod Shift
