-- The trace's numbers, its form by version, its configuration block, one record, and the verdict on any bytes.
pub mod Numbers
pub mod Form
pub mod Block
pub mod Records
pub mod Verdict
pub mod Examples
