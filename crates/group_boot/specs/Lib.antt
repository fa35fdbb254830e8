pub mod Flat
pub mod Manifest
pub mod Causes
