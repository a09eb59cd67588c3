-- What only contracts of private functions cite.
pub mod Kinds
pub mod Measured
pub mod Uses
pub mod Zeros
