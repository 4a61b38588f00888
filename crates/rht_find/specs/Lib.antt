-- the look-up, state by state
pub mod Find
-- what a look-up holds
pub mod FindHeld
-- how many operations it takes in a table
pub mod FindBound
-- where a look-up stands
pub mod FindStanding
