pub mod Bits
pub mod Cones
pub mod Invariants
pub mod Kept
pub mod Obligations
pub mod Texts
pub mod Words
pub mod inner
