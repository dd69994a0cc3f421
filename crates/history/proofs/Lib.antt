-- Theorems over whole runs.
pub mod Following
pub mod Afresh
pub mod Striking
pub mod Failing
pub mod Cases
