pub mod Fitting
pub mod OnBoards
