pub mod Paths
pub mod Reading
