-- What each promise determines.
pub mod Determined
