pub mod Laws
pub mod Nets
pub mod Operators
pub mod Values
