pub mod Codes
pub mod ReadBack
