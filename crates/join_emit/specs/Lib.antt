-- The code, the records and the image of joined signals.
pub mod Code
pub mod Parts
pub mod Sources
pub mod Image
