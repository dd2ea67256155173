pub mod OnBoards
pub mod Turns
pub mod Held
pub mod Faults
pub mod Around
pub mod Says
pub mod Read
