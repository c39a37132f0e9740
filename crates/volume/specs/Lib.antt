pub mod Kept
pub mod Sealing
