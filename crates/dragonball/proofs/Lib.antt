-- What the code's masks and products are, what the definitions mean, and what each promise of this floor determines.
pub mod Masks
pub mod Meaning
pub mod Determined
