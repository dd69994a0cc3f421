-- How the code's parts come to the whole, how many records there are at most, and what each promise determines.
pub mod Turns
pub mod Bound
pub mod Every
pub mod Determined
