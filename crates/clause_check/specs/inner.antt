-- What only contracts of private functions cite.
pub mod Cuts
pub mod Databases
pub mod Progresses
pub mod Tokens
pub mod Values
