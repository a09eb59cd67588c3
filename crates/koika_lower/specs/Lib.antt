pub mod Guarded
pub mod Lowering
pub mod TwoLowerings
pub mod inner
