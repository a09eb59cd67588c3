pub mod Laws
pub mod Occurrences
pub mod Order
pub mod Refusals
pub mod Rules
pub mod inner
