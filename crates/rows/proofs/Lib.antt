-- Words in a wider type and tests as loops decide them; the table of an area; rows by following their edges.
pub mod Loops
pub mod Scan
pub mod Edges
