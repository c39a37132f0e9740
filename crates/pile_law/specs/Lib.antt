pub mod Histories
pub mod TwoPiles
pub mod TwoHistories
