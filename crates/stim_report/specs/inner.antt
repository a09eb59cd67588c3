-- What only contracts of private functions cite.
pub mod FirstNames
pub mod Given
pub mod Numerals
pub mod Pages
pub mod Reading
pub mod Steps
pub mod Tallies
