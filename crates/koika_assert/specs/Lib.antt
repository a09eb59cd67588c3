pub mod Bads
pub mod Marks
pub mod Violations
pub mod inner
