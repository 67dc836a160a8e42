-- What the widths' proofs share.
pub mod Cases
