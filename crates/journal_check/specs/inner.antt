-- What only contracts of private functions cite.
pub mod Allowed
pub mod Naming
pub mod Replaying
pub mod Steps
pub mod Tokens
