pub mod Printing
pub mod Lexed
pub mod Writable
