-- a tidying, operation by operation
pub mod TidyRanges
pub mod TidySteps
-- and a walk
pub mod WalkSteps
-- of which kinds the operations are that give tables back
pub mod ReturnPlans
-- a job, operation by operation
pub mod JobSteps
-- and while its caller holds its section open over its calls
pub mod HeldSteps
-- what a job never holds, by its call
pub mod NeverHeld
