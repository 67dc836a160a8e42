-- What reading a text says of its bytes.
pub mod Picks
pub mod Room
pub mod Commands
pub mod Written
pub mod Spelled
pub mod Legal
pub mod Puts
pub mod Parses
