pub mod Shows
pub mod Recorded
pub mod Lent
