pub mod Rows
pub mod Sound
pub mod Descent
pub mod Lists
pub mod Summary
