pub mod Follows
pub mod Cuts
pub mod Calls
pub mod Steps
