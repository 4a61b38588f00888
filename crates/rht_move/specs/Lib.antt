-- finding the last table
pub mod LastTable
-- finding the last node of a chain
pub mod LastEntry
-- when a table is due, and of which size
pub mod Choice
-- the worker, state by state
pub mod Work
-- what a worker holds
pub mod WorkHeld
-- where a worker stands
pub mod WorkStanding
-- what the other crates rely on
pub mod Laws
