pub mod ByLog
pub mod Runs
