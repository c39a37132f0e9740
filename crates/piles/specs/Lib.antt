pub mod Piles
pub mod Reached
