-- What only contracts of private functions cite.
pub mod AigTexts
pub mod Answer
pub mod CircuitRuns
pub mod Engines
pub mod Given
pub mod Histories
pub mod Journaling
pub mod Steps
pub mod Telling
pub mod Works
