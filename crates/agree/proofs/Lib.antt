pub mod Stages
pub mod Agree
