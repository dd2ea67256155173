pub mod Numbers
pub mod First
pub mod Lists
pub mod Positions
