-- Paper 01 as definitions that compute, a module for each of its sections, and as statements.
pub mod Rules
pub mod Says
