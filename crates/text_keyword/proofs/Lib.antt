-- Laws of the table and of looking it up.
pub mod Finding
pub mod Rows
pub mod Answered
