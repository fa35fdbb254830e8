-- What the public clauses say.
pub mod Safe
pub mod Committed
pub mod Answers
