-- When parts join, what their image is, and demand 3 of it.
pub mod Join
pub mod Composed
pub mod JoinDependence
pub mod JoinLists
pub mod JoinExactness
