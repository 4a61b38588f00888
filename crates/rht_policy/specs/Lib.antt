-- which sizes may be asked about
pub mod Conditions
-- when a table grows, shrinks and is full
pub mod Thresholds
-- the size of a smaller table, and how many ports a table may hold
pub mod Sizes
-- the mix of three words of 32 bits
pub mod Mix
