pub mod Table
pub mod Network
pub mod Index
pub mod Work
pub mod View
pub mod Trails
