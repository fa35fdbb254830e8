pub mod Chain
pub mod Own
pub mod Faces
pub mod Entries
pub mod Lends
