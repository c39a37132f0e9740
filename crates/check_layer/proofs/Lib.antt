pub mod Follows
pub mod Cuts
pub mod Steps
