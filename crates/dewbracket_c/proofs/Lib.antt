-- What each promise of an export determines.
pub mod Determined
