-- What only contracts of private functions cite.
pub mod Known
pub mod SlowRun
