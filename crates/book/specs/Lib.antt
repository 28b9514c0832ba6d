pub mod Held
pub mod Refusal
pub mod State
pub mod Answers
pub mod Orders
pub mod Written
