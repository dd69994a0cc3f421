-- The transport's state as a function: fresh from a configuration, activation and state reset, queue fields, the
-- question; and which states are real.
pub mod State
pub mod Effect
pub mod Fresh
pub mod Activation
pub mod Fields
pub mod Sound
