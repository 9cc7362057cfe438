-- The questions of the call, and the front of a sound queue.
pub mod Asking
