-- what an event does to each caller, and inductions over the events of a run
pub mod Worlds
-- in every run all words and callers are there, and each caller works in the run's table
pub mod SoundRuns
-- the node that a call hands out is one of the table's
pub mod HandedOut
-- in every run all that callers name is in range, and each word is one
pub mod RangesInRuns
-- in every run a caller that isn't enrolled has done nothing
pub mod CallersNotEnrolled
-- who is in a call plans an operation, and leaves the call with its reply
pub mod BusyCallers
-- a caller in a call does what its job says
pub mod JobsOfCallers
-- the words of a state that is being opened
pub mod OpenedStates
-- what holds of a state because a run has reached it
pub mod ReachedStates
-- what a caller knows, and that its operation is a step
pub mod StepsOfCallers
-- how many nodes a call has given back
pub mod TidiedNodes
-- a caller's batch has the nodes that its calls took out and haven't given back
pub mod OwnBatches
-- the invariant, and that each event keeps it
pub mod Invariants
-- a page that a job may miss stays once it is there
pub mod PagesThere
-- the invariant holds in every run
pub mod InvariantRuns
-- runs of a table in the plain ways
pub mod PlainStarts
-- what each event keeps of callers and of the ghost
pub mod KeptAtEvents
-- a caller may hold its section open over its calls
pub mod HeldEvents
-- where a section word stays, so do the tables to which the section comes
pub mod UnturnedSections
-- a bucket of such a table stays where it is
pub mod BucketsThere
-- and a slot has that table still
pub mod TablesThere
-- in every run each caller works at the call of its book, and its calls took out and gave back as many nodes as that says
pub mod BooksInRuns
-- the node that a call has taken out of a port's list, by its state
pub mod TakenOut
-- what a release or a rebind says of the node that it has taken out
pub mod SaidOfNodes
-- in every run a node that is handed out may be put into a batch, and none stands there twice
pub mod BatchesInRuns
-- in every run a section word is odd just where its caller's call is in its section, and no other call changes it
pub mod SectionMoves
pub mod SectionsInRuns
