pub mod Numbers
pub mod Fan
pub mod Points
pub mod Roof
pub mod Keep
pub mod Insert
pub mod Build
pub mod Static
