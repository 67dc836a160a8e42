-- Laws of the assembler.
pub mod Values
pub mod Walk
