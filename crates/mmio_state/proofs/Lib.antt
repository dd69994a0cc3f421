-- How the code comes to the definitions, what they come to on real states, and what each promise determines.
pub mod Operating
pub mod Asking
pub mod Sounding
pub mod Keeping
pub mod Determined
