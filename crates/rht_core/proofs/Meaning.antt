-- which tables are in force
pub mod TablesInForce
-- what the words stand for is what the ghost says
pub mod BoundPorts
-- each node that is met is the first one of a port, and ports' lists have no node in common
pub mod ListableWords
