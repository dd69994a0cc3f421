-- Queues: indices, the eight fields and what is fit for them, validity and the scan, events and reading back.
pub mod Index
pub mod Fields
pub mod Valid
pub mod Events
