-- How the code comes to the definitions, what an accepted trace is, and what each promise determines.
pub mod Judging
pub mod Examples
pub mod Determined
