pub mod BitVector
pub mod Faults
pub mod Host
pub mod Laws
pub mod Operators
pub mod Reserved
pub mod Tables
pub mod formers
