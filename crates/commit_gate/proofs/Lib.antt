pub mod Stages
mod Told
pub mod Phases
pub mod During
