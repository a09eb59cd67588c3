-- What only contracts of private functions cite.
pub mod Finds
pub mod Fits
pub mod Paths
pub mod Valid
