pub mod Block
pub mod InUse
pub mod Io
pub mod Slot
pub mod View
pub mod Readable
