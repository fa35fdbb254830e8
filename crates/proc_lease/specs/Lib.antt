pub mod Private
pub mod Running
pub mod GroupObjects
pub mod Sight
