-- What a check answers, from its definition.
pub mod Judgement
