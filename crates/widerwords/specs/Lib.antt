-- `Words` has the words of 02's 2.1 with both pairs of limits.
pub mod Words
