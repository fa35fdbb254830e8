-- What the public clauses say.
pub mod Engine
pub mod Memory
-- What only private functions say.
pub mod Descriptors
pub mod Placing
pub mod Turning
