pub mod Accepted
pub mod Histories
pub mod Kept
pub mod Kin
pub mod Late
pub mod Same
pub mod Twins
pub mod TwoHistories
