-- That the short ways are the step, and what each promise determines.
pub mod Same
pub mod Determined
