-- What only contracts of private functions cite.
pub mod Reading
pub mod Telling
pub mod Stops
