pub mod Devices
pub mod Rise
