-- whatever words it is told, a walk stays in its table
pub mod WalkStays
-- on which words a walk works
pub mod WalkPlanned
-- what was found at buckets and nodes, where one more is found
mod SeenBuckets
-- what is said of a walk in each state
mod WalkStates
-- and each operation leads on to that of the next one
mod WalkSteps
-- a walk has done what it answers
pub mod WalkAnswers
-- a walk ends soon
pub mod WalkBounds
