-- What only contracts of private functions cite.
pub mod FirstNames
pub mod Parts
pub mod Reading
pub mod Kept
