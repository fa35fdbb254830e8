pub mod Slot
pub mod Chain
pub mod Reads
pub mod Refusals
pub mod MemberLaws
