-- When compile, reset and cycle are done or refused, and what they leave.
pub mod Exactness
