pub mod Wires
pub mod Gates
pub mod inner
