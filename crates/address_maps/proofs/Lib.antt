pub mod Free
pub mod LowestGap
