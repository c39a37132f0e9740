pub mod Moved
pub mod Outlasts
