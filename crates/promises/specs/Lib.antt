-- What the calls promise, as records: a field is a promise, and its comment the paper's sentence. `Promises` gathers them all.
pub mod Total
pub mod Exact
pub mod ForEver
pub mod Commands
pub mod Codes
-- Requests a, c to g, h and i, j to m; b is in Commands. Then the text form.
pub mod Reports
pub mod Latency
pub mod Arithmetic
pub mod Trials
pub mod Tails
pub mod Conversion
pub mod Boards
pub mod Tables
pub mod Joins
pub mod Moves
pub mod Readers
pub mod TextForm
pub mod Promises
-- What these statements speak of: answers that one number tells; what dependents marks; when a board's calls are done or refused;
-- two courses of events on a board.
pub mod Codable
pub mod Dependents
pub mod BoardExact
pub mod Scenes
