pub mod Accesses
pub mod Adding
pub mod Answering
pub mod Beginning
pub mod Growth
pub mod Making
pub mod Running
