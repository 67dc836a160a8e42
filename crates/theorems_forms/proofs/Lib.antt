-- The text form: both calls exactly, and each the other's way back.
pub mod Forms
pub mod FormTokens
pub mod FormStops
pub mod FormLists
pub mod FormCalls
pub mod FormLegal
pub mod FormWords
