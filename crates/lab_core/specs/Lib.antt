pub mod Laws
pub mod Numbers
pub mod Profiles
pub mod Runs
pub mod Trials
pub mod Why
pub mod inner
