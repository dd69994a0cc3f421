-- How the code comes to the definitions, and what each promise determines.
pub mod Chains
pub mod Accepting
pub mod Determined
