pub mod Meaning
pub mod Cuts
pub mod Mapped
pub mod Numbers
pub mod Showing
