pub mod Flags
pub mod StandsFor
pub mod Touched
pub mod inner
