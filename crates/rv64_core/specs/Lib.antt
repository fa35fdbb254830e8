pub mod Flat
pub mod Step
pub mod Steps
pub mod Fitting
pub mod ByteLaws
