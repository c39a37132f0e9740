pub mod Counts
pub mod Moves
pub mod Grants
pub mod Keeping
pub mod Hint
