-- The polled registers, and what a write to the message registers asks for.
pub mod Polled
pub mod Commands
