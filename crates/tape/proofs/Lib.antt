-- The held table's laws, records played one after another, loops that write records, and what each promise determines.
pub mod Table
pub mod Playing
pub mod Determined
pub mod Loops
