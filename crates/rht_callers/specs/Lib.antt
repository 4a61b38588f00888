-- the nodes that a caller's calls took out
pub mod Batches
-- what a caller is doing
pub mod Locals
-- the reading of how many ports are bound
pub mod PortCounts
