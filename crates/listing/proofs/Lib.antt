-- Lines one under the other; records read back from lent words; what each promise determines.
pub mod Rows
pub mod Back
pub mod Determined
