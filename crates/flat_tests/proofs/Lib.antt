pub mod MemorySample
pub mod TurnSample
