-- lists of numbers and what they weigh, and sums over passes
pub mod NumberLists
-- each step keeps the rule of the queue
pub mod NumberRule
-- taking out the first command that somebody has left
pub mod TakenOut
-- what all workers have done, put in order
pub mod DoneOrder
-- a worker that does a command more
pub mod ServedAnswers
-- a worker that takes numbers, one after another
pub mod WorkSteps
-- lists of workers that are ready, or have worked
pub mod ReadyWorkers
-- what the dealer's pass of the queue has taken in
pub mod Gathering
-- from what all workers have done to what was dealt
pub mod WorkersDone
-- the first worker does what is left
pub mod FirstWorker
-- what follows for what was done, in the words of commands and workers
pub mod DoneLaws
