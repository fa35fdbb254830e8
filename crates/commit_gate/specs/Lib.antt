-- What the clauses say.
pub mod Written
pub mod Commit
pub mod Whole
pub mod Phases
-- Laws of these words, proved.
pub mod SlotLaws
pub mod ImageLaws
pub mod FinishedLaws
pub mod CallLaws
