pub mod Arrays
pub mod Columns
pub mod Entries
pub mod Lent
