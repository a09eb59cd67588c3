-- What only contracts of private functions cite.
pub mod AigSims
pub mod Nodes
pub mod Rules
pub mod Sources
pub mod Trims
pub mod Steps
pub mod Words
