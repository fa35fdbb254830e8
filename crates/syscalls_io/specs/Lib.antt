-- What the public clauses say.
pub mod Outside
pub mod IoCalls
