pub mod Playing
pub mod Samples
