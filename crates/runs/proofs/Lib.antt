-- Laws of the runs of a signal.
pub mod Runs
