-- What only contracts of private functions cite.
pub mod Brackets
pub mod Expected
pub mod ExpressionWords
pub mod Names
pub mod Parts
pub mod Reading
pub mod Stops
pub mod Words
