-- What only contracts of private functions cite.
pub mod Programs
pub mod Words
