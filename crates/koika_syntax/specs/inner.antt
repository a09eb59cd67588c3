-- What only contracts of private functions cite.
pub mod Grammar
pub mod LexemeAnswers
pub mod Symbols
