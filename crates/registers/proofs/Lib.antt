-- Where the port's registers and the standard's part, what of the standard holds, and what each promise determines.
pub mod Apart
pub mod Meaning
pub mod Determined
