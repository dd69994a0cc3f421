-- The law of reading a log, and what holds of every run.
pub mod Law
pub mod Runs
