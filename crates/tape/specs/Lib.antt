-- The records of one operation: their kinds, the held table as their fold, and the lent words, moved on together.
pub mod Actions
pub mod Held
pub mod Calls
pub mod Play
