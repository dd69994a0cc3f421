-- What an activation asks, what follows a refusal, what a state reset tells, and how the code's parts come to the whole.
pub mod Requests
pub mod Bound
pub mod Ties
