pub mod Acceptance
pub mod Rules
pub mod Run
pub mod Scope
pub mod SlowRun
pub mod Table
pub mod inner
