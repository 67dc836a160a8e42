-- What is known where latencies are judged.
pub mod Timely
