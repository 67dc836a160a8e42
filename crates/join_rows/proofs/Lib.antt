-- Laws of the rows of a join.
pub mod Stand
