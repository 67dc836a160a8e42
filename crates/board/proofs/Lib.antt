-- Laws that the proofs of several functions cite; what the calls promise together, of the record and of the numbers that stand
-- for it.
pub mod Called
pub mod Stretch
pub mod Words
pub mod Due
pub mod Cases
pub mod Round
pub mod Counts
pub mod Alone
pub mod Others
pub mod Intact
pub mod Promises
pub mod Places
pub mod Next
pub mod Held
pub mod Numbers
pub mod Lists
