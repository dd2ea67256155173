pub mod Co
pub mod Forced
