pub mod Histories
pub mod Plays
pub mod Work
pub mod inner
