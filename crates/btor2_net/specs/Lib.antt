pub mod Laws
pub mod Layout
pub mod Pages
pub mod TidyLines
pub mod Translations
pub mod inner
