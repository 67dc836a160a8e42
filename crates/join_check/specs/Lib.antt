-- The reads of links, by the tables of joined numbers.
pub mod Met
