pub mod Mirrored
pub mod Cuts
