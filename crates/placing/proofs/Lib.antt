pub mod OnBoards
pub mod Steps
pub mod Placed
pub mod Fits
pub mod Writing
