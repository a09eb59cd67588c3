pub mod InMemory
pub mod Portions
pub mod inner
