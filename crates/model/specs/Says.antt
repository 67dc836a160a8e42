-- The statements that code and its laws cite: the paper's words over bytes, runs and calls. Those that judge the definitions as a
-- whole are in the crates theorems_*.
pub mod Words
pub mod Written
pub mod Grammar
pub mod Stands
pub mod Feasible
pub mod Rows
pub mod Calls
