-- When a pair is legal and when it is refused, in the paper's words; the way back of a latency.
pub mod Latency
pub mod Subexpression
pub mod Conditions
pub mod Terms
pub mod Refusals
