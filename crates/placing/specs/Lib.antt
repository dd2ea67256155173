pub mod Stages
pub mod Records
pub mod Pairs
