-- A device as the walks see one, and the walks behind it: of a write, a raise and a read, and of the two polls.
pub mod Shape
pub mod Writing
pub mod Raising
pub mod Reading
pub mod PollWrite
pub mod PollRead
