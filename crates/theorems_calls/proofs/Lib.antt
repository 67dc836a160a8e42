-- Calls: exactly when each is done or refused, its places and numbers.
pub mod CallsExact
pub mod Places
pub mod Numbers
