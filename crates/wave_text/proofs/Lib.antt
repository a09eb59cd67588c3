pub mod Batches
pub mod Binary
pub mod Follow
pub mod Moments
pub mod ReadBack
pub mod Said
pub mod Turns
