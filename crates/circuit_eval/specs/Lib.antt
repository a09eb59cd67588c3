pub mod Circuits
pub mod Machines
pub mod Programs
pub mod Run
pub mod Simulations
pub mod Tidy
pub mod Words
pub mod inner
