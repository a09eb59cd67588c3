pub mod Counting
pub mod Lines
pub mod Steps
pub mod Tops
