pub mod Numerals
pub mod Putting
pub mod Decimals
