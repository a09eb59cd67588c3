pub mod Keywords
pub mod Symbols
pub mod Lexemes
pub mod Tokens
pub mod TokenFaults
pub mod Tree
pub mod Grammar
pub mod inner
