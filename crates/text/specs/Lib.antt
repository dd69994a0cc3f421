-- The text that a replay prints, as lists of bytes: numerals, the lines of a trace, what the options add, and the room asked for.
pub mod Numerals
pub mod Lines
pub mod Details
pub mod Room
pub mod Page
