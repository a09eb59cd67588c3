-- What only contracts of private functions cite.
pub mod Cycles
pub mod Designs
pub mod Made
