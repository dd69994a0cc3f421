-- The lent setters and the functions that lend to them, each form once; and what each promise of this floor determines.
pub mod Lent
pub mod OnLocal
pub mod Determined
