pub mod Limited
pub mod Cuts
