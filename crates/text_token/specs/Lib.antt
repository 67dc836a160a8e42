-- The definitions that the contracts of `text_token` cite.
pub mod Scanning
