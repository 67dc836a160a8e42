-- Laws of writing an image.
pub mod Coded
pub mod Counted
pub mod Cursors
pub mod Imaged
pub mod Timed
pub mod Written
pub mod Joined
pub mod Listed
