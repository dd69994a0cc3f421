-- The lines that an option adds to a record's own line.
pub mod Listing
