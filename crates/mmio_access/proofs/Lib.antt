-- How the code comes to the definitions, and what each promise determines.
pub mod Masks
pub mod Determined
