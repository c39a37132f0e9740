pub mod Parents
pub mod Steps
pub mod Opens
pub mod Drops
pub mod Granting
pub mod Linking
pub mod Hints
pub mod Shown
