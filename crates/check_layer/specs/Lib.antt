pub mod Checked
pub mod Cuts
