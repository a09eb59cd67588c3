-- What only contracts of private functions cite.
pub mod Notes
pub mod Receipts
pub mod Rooms
pub mod Rule
pub mod Work
