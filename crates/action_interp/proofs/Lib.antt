pub mod ByLog
pub mod Runs
pub mod Steps
