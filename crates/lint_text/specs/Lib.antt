pub mod Findings
pub mod Never
pub mod Notes
pub mod Places
pub mod Text
pub mod inner
