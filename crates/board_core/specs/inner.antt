-- What only contracts of private functions cite.
pub mod Counts
pub mod Kept
pub mod Search
