-- Parts joined with links.
pub mod Rows
pub mod Parts
pub mod Bounds
pub mod Timely
pub mod Verdict
pub mod Exact
pub mod Alone
pub mod Called
pub mod Composed
pub mod Demand
pub mod Places
pub mod Dependence
pub mod Alike
