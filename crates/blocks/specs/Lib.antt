pub mod Blocks
pub mod Homes
pub mod Listing
