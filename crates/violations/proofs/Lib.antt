pub mod Refuting
pub mod Telling
pub mod Showing
pub mod Unedited
pub mod Engines
