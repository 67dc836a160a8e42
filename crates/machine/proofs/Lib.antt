-- Laws that the proofs of several functions cite.
pub mod Lists
pub mod Tables
pub mod Machine
pub mod Runnable
pub mod Judging
