pub mod Lists
pub mod Longer
pub mod Through
pub mod Both
pub mod Charges
pub mod Showing
