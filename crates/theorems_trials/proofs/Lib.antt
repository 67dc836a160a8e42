-- A bench trial: its script, its refusals, its lines, its decimals.
pub mod Decimals
pub mod Scripts
pub mod Trials
pub mod TrialLines
