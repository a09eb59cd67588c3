pub mod Meetings
pub mod Sweeps
pub mod Occurrences
