-- Pairs: each refusal exactly under its condition, the latency over all runs.
pub mod Faults
pub mod Judged
pub mod JudgedPuts
pub mod Subexpressions
pub mod Lookups
pub mod JudgedRows
pub mod Window
pub mod JudgedRuns
pub mod Latency
pub mod Settled
pub mod Terms
pub mod Exact
