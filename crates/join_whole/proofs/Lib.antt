-- Laws that the proof cites.
pub mod Wired
