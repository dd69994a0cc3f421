-- The ladder of status: on plain numbers, on the state, and which statuses there are.
pub mod Ladder
pub mod Climbing
pub mod Statuses
