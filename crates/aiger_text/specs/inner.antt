-- What only contracts of private functions cite.
pub mod Numerals
pub mod Printing
pub mod RunsSoFar
pub mod Sound
pub mod Steps
