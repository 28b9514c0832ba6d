pub mod Makings
pub mod Fillings
pub mod Lists
pub mod Promised
