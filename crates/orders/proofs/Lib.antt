pub mod Shown
pub mod Visits
pub mod Searches
