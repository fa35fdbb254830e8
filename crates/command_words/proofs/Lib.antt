pub mod LimitLaws
pub mod ReadingLaws
pub mod SaidLaws
pub mod Saying
