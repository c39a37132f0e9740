pub mod Words
pub mod Pages
pub mod Exact
pub mod Slots
pub mod Editing
pub mod Seen
pub mod Judged
