-- What the functions of latency stand for.
pub mod Back
pub mod Hops
