-- What only contracts of private functions cite.
pub mod Forms
pub mod Identities
pub mod Passes
