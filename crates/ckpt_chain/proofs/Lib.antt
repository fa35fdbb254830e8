pub mod Kept
pub mod Laid
mod SlotLaws
mod Walk
