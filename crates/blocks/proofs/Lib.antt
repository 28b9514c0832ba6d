pub mod Homing
pub mod Listed
pub mod Blocked
