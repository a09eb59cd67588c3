pub mod Bits
pub mod Holding
pub mod OneClaim
pub mod SomeClaim
