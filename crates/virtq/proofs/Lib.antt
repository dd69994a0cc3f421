-- What the definitions of queues mean, and what each promise of this floor determines.
pub mod Numbers
pub mod Sizes
pub mod Scans
pub mod Reading
pub mod Determined
