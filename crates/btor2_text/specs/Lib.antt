pub mod Cut
pub mod Forms
pub mod Lines
pub mod Printable
pub mod Printing
pub mod Reading
pub mod inner
