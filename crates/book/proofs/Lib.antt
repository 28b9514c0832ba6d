pub mod Keeps
pub mod Calls
pub mod RunCalls
pub mod ReadCalls
