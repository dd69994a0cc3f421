-- The short ways through the device, and what is told of an operation.
pub mod Tell
pub mod Quick
