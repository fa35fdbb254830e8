pub mod Reasons
pub mod OpeningLaws
pub mod Answering
pub mod Finishing
