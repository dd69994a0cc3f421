-- What single registers show and do, and what the status lets through.
pub mod Gates
pub mod Shown
pub mod Changes
