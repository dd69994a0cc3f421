-- What the step comes to: its bounds, what it keeps, what shuts lookalikes out.
pub mod Bounds
pub mod Keeping
pub mod Lookalikes
pub mod Reading12
pub mod Writing12
