-- taking the lock of a bucket
pub mod Lock
-- what is kept of a bucket that is locked
pub mod Locked
-- walking a chain under its lock
pub mod LockedWalk
-- locking a bucket and walking its chain
pub mod Probe
-- changing one link of a chain
pub mod Relink
-- letting go of the lock
pub mod Unlock
-- what the other machines rely on
pub mod Laws
-- at which nodes these stand
pub mod ChainNodes
