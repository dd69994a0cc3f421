-- What the exports promise, and which number means which field of a queue and which registration.
pub mod Numbers
pub mod Promises
