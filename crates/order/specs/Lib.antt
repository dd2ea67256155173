pub mod Order
pub mod Canonical
pub mod Fitting
pub mod Opens
pub mod Fitted
pub mod Ranked
