pub mod Bounds
pub mod Sides
