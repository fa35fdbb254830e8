mod HeldLaws
mod LayerLaws
mod OwnLaws
mod PartsLaws
mod ReadLaws
mod SharedOut
pub mod FewPages
