-- The walks, what each promise says, and what it determines.
pub mod Walks
pub mod Worded
pub mod Determined
