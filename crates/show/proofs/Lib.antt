pub mod Sheets
pub mod Naming
pub mod Lengths
pub mod Replying
pub mod Whys
pub mod OnBoards
pub mod Reading
