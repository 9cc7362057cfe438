pub mod Tests
pub mod Stories
pub mod Engines
pub mod Through
pub mod Showing
pub mod Both
