pub mod Fault
pub mod FaultLine
pub mod Names
pub mod Place
pub mod Texts
