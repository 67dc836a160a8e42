-- The stack as a list.
pub mod View
