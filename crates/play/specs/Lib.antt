-- One record of a trace: the operation that it is, its text, and what running it promises.
pub mod Log
pub mod Text
pub mod Play
