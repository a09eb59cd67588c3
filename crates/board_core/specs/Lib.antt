pub mod Board
pub mod Position
pub mod History
pub mod Kept
pub mod Laws
pub mod Candidates
pub mod inner
