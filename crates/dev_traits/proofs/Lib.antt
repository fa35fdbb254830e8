pub mod RecordLemmas
pub mod Stops
pub mod Images
