pub mod Clauses
pub mod Dimacs
pub mod Flat
pub mod Lines
pub mod Propagation
pub mod Refutations
pub mod Steps
pub mod inner
