pub mod Conjunction
pub mod FirstPlaces
pub mod Cutting
pub mod Numbering
pub mod Numerals
pub mod Words
