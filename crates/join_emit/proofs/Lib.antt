-- Laws that the proofs of several functions cite.
pub mod Shifted
pub mod Parted
pub mod Sourced
pub mod Owned
pub mod Stretched
pub mod Declares
