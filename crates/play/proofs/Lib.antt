-- A reply in the front of a lent buffer; what an answer tells of its operation, and how it is told; what each promise determines.
pub mod Replying
pub mod Running
pub mod Telling
pub mod Determined
