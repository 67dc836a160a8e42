-- Laws of marks and of the call.
pub mod Marks
pub mod Inputs
