-- The staged message.
pub mod Stage
