pub mod Writing
pub mod Numerals
pub mod Reading
pub mod Pages
