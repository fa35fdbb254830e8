-- What the public clauses say.
pub mod Marks
pub mod Turns
pub mod Touched
pub mod Progress
pub mod Legal
pub mod Ends
pub mod Solo
pub mod Limits
