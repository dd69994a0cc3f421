-- How the code comes to the definitions, and what each promise determines.
pub mod Found
pub mod Making
pub mod Determined
