pub mod Found
pub mod Marked
pub mod NeverOne
pub mod Noted
pub mod Orders
pub mod Ranges
pub mod Sizes
