pub mod Shown
pub mod Entered
pub mod Replied
pub mod Why
