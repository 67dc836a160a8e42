-- Demand 3: the streams, lists of calls, which signals an input reaches.
pub mod Held
pub mod Streams
pub mod Lists
pub mod Dependence
