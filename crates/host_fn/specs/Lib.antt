pub mod HostFn
pub mod Stored
