-- A bench trial: decimals, what refuses it, its lines.
pub mod Decimals
pub mod TrialRefusals
pub mod Trials
