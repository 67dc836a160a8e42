-- The paper's examples and those of the text form.
pub mod Examples
pub mod TextExamples
