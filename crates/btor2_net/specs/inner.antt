-- What only contracts of private functions cite.
pub mod Nodes
pub mod PageFields
pub mod Values
pub mod Wires
