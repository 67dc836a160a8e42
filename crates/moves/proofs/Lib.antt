-- Laws of moves.
pub mod MetAgain
pub mod Loads
pub mod Chains
pub mod Decides
pub mod Entries
pub mod Tables
