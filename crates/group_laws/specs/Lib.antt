pub mod Fresh
pub mod Outside
