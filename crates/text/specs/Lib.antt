pub mod Letters
pub mod Filling
pub mod Said
pub mod Pages
