pub mod LeaseSample
