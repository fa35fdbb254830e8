-- What the public clauses say.
pub mod View
pub mod Faces
pub mod Deltas
pub mod Leases
pub mod Calls
-- What only private functions say.
pub mod Held
pub mod SeenTables
pub mod FirstFaces
pub mod Starting
pub mod Standing
pub mod Steps
pub mod Readiness
pub mod Ending
pub mod ServedCalls
pub mod Resting
pub mod SameTables
pub mod Placed
pub mod Stepping
pub mod NewFaces
pub mod Accesses
