-- The checks of a pair in steps, and what the answers say of them.
pub mod Checked
pub mod Groups
