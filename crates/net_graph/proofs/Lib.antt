pub mod NodeWidths
pub mod OneByOne
pub mod OperatorWidths
pub mod Sharing
pub mod Standing
pub mod Values
