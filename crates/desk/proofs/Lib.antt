-- A record's bytes in the trace; records one after the other; the whole; what the night desk may rely on; what each promise
-- determines.
pub mod Placing
pub mod Going
pub mod Joining
pub mod Whole
pub mod Afresh
pub mod Determined
