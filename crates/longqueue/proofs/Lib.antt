pub mod Standing
pub mod Extents
pub mod Changed
pub mod Judging
pub mod Searching
