-- One entry of each table.
pub mod Tables
