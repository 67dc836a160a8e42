-- Laws of reading tokens byte by byte.
pub mod Scans
