pub mod Held
pub mod Built
pub mod Faults
pub mod Sides
pub mod Outlasts
