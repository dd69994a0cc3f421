-- The port's state as the standard speaks of it, and where the two part.
pub mod Standard
