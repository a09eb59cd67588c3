pub mod Laws
pub mod Modules
pub mod Names
pub mod Runs
pub mod Texts
pub mod Translations
pub mod inner
