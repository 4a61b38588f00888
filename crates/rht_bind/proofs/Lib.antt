-- whatever words it is told, a bind stays in its table
pub mod BindStays
-- on which words a bind works
pub mod BindPlanned
-- what a bind knows in each state
pub mod BindKnowledge
-- its way to its bucket, which it locks and walks
pub mod BindWays
-- what it decides under the lock
pub mod BindDecisions
-- the store that links its node
pub mod BindLinks
-- the store that puts its node in front of a list
pub mod BindFronts
-- the growing of the table
pub mod BindGrowths
-- a bind, operation by operation
pub mod BindSteps
