-- What the public clauses say.
pub mod CommitPlan
pub mod KeptBlocks
pub mod Plans
-- What only private functions say.
pub mod Taking
