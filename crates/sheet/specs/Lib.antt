pub mod Told
pub mod Sheet
pub mod Applying
pub mod Taking
