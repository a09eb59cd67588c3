-- What only contracts of private functions cite.
pub mod Hosts
pub mod KeptLines
pub mod Parts
