pub mod Taking
pub mod Resting
pub mod Starting
