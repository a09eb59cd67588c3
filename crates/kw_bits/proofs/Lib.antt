pub mod Counts
pub mod Halves
pub mod OperatorLaws
pub mod Masks
pub mod Reversal
pub mod Signs
pub mod Words
