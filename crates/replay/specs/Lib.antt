pub mod Making
pub mod Reading
pub mod Replaying
