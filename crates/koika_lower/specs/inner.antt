-- What only contracts of private functions cite.
pub mod Actions
pub mod Applied
pub mod Expressions
pub mod Forms
pub mod Packing
pub mod Rules
pub mod Simulation
