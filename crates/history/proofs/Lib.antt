pub mod Law
pub mod Sealing
