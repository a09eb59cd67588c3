pub mod Claims
pub mod Certificates
pub mod inner
