-- The log read by document 01 alone; runs of the device; the tables of cases.
pub mod Log
pub mod Run
pub mod Cases
