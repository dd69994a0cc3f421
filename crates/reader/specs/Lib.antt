-- What a reader keeps, and what it finds.
pub mod Reader
