-- The device as the walks of `mmio_lent` see one, the polls in the words of the step, and what each promise determines.
pub mod Device
pub mod Polled
pub mod Determined
