pub mod Indexed
pub mod Splits
pub mod Flat
pub mod Fillings
pub mod Splicing
pub mod Levels
pub mod Numbers
pub mod Roots
