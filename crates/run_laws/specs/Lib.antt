-- What the public clauses say.
pub mod Counts
pub mod Order
pub mod Leases
pub mod Rests
pub mod EpochGroups
pub mod OutputBetween
pub mod Smallest
pub mod Untouched
