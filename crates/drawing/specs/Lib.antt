pub mod Meeting
pub mod Areas
