-- The device as a function: fresh from a configuration, and one step.
pub mod Operation
pub mod Fresh
pub mod Registers
pub mod Step
