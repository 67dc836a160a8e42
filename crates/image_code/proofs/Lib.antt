-- Laws of writing code.
pub mod Operands
pub mod Signals
pub mod Spans
