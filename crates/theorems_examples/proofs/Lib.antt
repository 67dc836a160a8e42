-- The examples, by computation.
pub mod Examples
pub mod FormExamples
