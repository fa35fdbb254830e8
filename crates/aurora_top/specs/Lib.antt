-- What the public clauses say.
pub mod Ending
pub mod Beginnings
pub mod Refusals
pub mod Opening
pub mod Answers
pub mod Complete
-- What only private functions say.
pub mod Causes
pub mod Starting
