pub mod Replies
pub mod Demands
pub mod Mirror
pub mod Exact
pub mod Size
pub mod Between
pub mod Promises
pub mod Starred
