pub mod Layout
pub mod Block
