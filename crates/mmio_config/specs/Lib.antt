-- What the gateway hands over, and what a fresh device has of it.
pub mod Fresh
