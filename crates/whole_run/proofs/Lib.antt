pub mod Passing
pub mod Ending
pub mod Histories
