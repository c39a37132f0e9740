pub mod Facts
pub mod Indexes
pub mod Cuts
pub mod WordKinds
pub mod Chunks
