pub mod Split
pub mod Able
