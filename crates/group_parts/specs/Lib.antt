pub mod Parts
pub mod Local
pub mod Marks
pub mod Leases
pub mod Kept
pub mod Served
