-- The commands of a script as the code goes over them.
pub mod Inputs
pub mod Script
