pub mod First
pub mod Numbers
pub mod Lists
pub mod Chains
pub mod Tests
pub mod Positions
