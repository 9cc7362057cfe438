pub mod Listed
pub mod Handing
pub mod Ranking
