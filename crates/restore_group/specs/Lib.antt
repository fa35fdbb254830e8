pub mod Layers
pub mod Meta
pub mod Outcome
