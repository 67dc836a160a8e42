-- Images: operators, where lists and codes stand, well formed exactly, runs, the stack, offsets, counts.
pub mod Nearest
pub mod Operators
pub mod Decoded
pub mod Stretched
pub mod FormedExactly
pub mod Former
pub mod Heights
pub mod Ran
pub mod Offsets
pub mod Counted
