pub mod Designs
pub mod inner
