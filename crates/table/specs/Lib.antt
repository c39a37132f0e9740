pub mod Rows
pub mod Angles
pub mod Around
pub mod Summary
pub mod Summaries
