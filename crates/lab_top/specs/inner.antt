-- What only contracts of private functions cite.
pub mod Given
pub mod Lint
pub mod Registers
pub mod Steps
pub mod Waves
