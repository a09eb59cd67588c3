pub mod Bits
pub mod Joins
pub mod Logs
pub mod Telling
pub mod Walks
