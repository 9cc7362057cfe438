pub mod Views
pub mod Ranks
pub mod Window
