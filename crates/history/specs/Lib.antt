pub mod Calls
pub mod Law
pub mod Machine
