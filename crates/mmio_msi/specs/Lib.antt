-- Messages: the mode, the staged message, the commands.
pub mod Messages
