pub mod Charge
pub mod ChargeDelay
pub mod ChargeLaws
pub mod DelayLaws
pub mod Limits
pub mod Parts
pub mod Rounding
pub mod Shown
