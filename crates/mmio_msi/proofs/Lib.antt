-- How the code comes to the definitions, and what each promise determines.
pub mod Messaging
pub mod Keeping
pub mod Determined
