pub mod Boards
pub mod Rings
pub mod Faults
pub mod Found
pub mod Plane
pub mod Held
pub mod Given
