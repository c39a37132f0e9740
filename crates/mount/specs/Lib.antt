pub mod Due
pub mod Tally
pub mod Counting
pub mod Mounts
pub mod Formats
