-- `Asking` has the questions of reader and writer, one by one, and `Laying` the laws of laying a frame down in a buffer, for the proofs of this crate and of the crates that use it.
pub mod Asking
pub mod Laying
-- `Shape` has the laws of a frame's form, `Windows` what is asked of a frame at the front of a window, and `Digits` the laws of its newest counts as numbers.
mod Shape
mod Windows
mod Digits
