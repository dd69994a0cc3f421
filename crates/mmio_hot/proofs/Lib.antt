-- What an update command's argument is, and what each promise determines.
pub mod Messaging
pub mod Determined
