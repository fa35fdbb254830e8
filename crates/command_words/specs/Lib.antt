-- What the public clauses say.
pub mod Words
pub mod Options
pub mod Spelling
pub mod End
pub mod Say
-- What only private functions say.
pub mod Said
pub mod Put
