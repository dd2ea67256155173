pub mod Entered
pub mod Fit
