-- What running the records of a trace promises: as many as there is room for, or the whole.
pub mod Desk
pub mod Log
