-- What the functions that list where one job may go stand for.
pub mod Listing
