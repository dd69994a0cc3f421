-- Reading a log, runs and their answers, for any transport and any start.
pub mod Reading
pub mod Runs
