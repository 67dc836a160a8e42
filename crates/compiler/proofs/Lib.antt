-- Each function's proof stands in a folder of its name.
pub mod Compiling
