-- the search for the last table stays among the slots
pub mod LastTables
-- the walk to a chain's last node stays at nodes
pub mod LastEntries
-- a table that is due has one of the sizes of tables
pub mod DueSizes
-- what a worker holds of a table that it has made
pub mod HeldTables
-- whatever words it is told, a worker stays in its table
pub mod WorkStays
-- on which words a worker works
pub mod WorkPlanned
-- what a resizing knows in each state
pub mod WorkKnowledge
-- what leads it from one state to the next
pub mod WorkLeads
-- how it gives retired tables back
pub mod WorkReturns
-- the last table, and one that is attached behind it
pub mod WorkTables
-- the next bucket of the current table
pub mod WorkBuckets
-- the last entry of a bucket, which is moved
pub mod WorkEntries
-- a resizing, operation by operation
pub mod WorkMachine
