-- What the public clauses say.
pub mod Codec
pub mod Fits
pub mod Runs
pub mod Spelling
pub mod Spells
pub mod Holds
pub mod Parts
pub mod Origin
pub mod Newest
pub mod Cost
pub mod Pages
-- What only private functions say.
pub mod Gives
pub mod Listed
pub mod Reading
