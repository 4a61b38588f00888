-- words that lie apart are still words, one by one
pub mod LaidWords
-- members of lists, and lists changed at one place
pub mod ViewLists
-- an event of the caller that a seat has keeps the rule
pub mod CallerEvents
-- opening a table, drawing and handing out numbers, and joining seats keep the rule
pub mod SeatMoves
-- what one operation of a pass asks of its table, and leaves
pub mod Performed
-- a node that a call takes out may go into its caller's batch
pub mod KeptNodes
-- from one operation to a call, and what a finished call was answered
pub mod CallSteps
-- why a finished call was answered as it was
pub mod CallCauses
-- what a look-up has to show, and that it ends
pub mod LookupCalls
-- a batch has no more nodes than its table
pub mod BatchCounts
-- what a tidying makes of its pass's batch
pub mod PassTidyings
pub mod TidyRides
-- why a tidying and a walk end
pub mod ShortCalls
-- the calls of a command
pub mod ServedCommands
-- how callers get on that serve commands, and what that is once the table is closed
pub mod ServedWorkers
-- what is so of a run that serves commands
pub mod ServingRuns
-- how a table is opened
pub mod OpenedTables
-- how a table is closed
pub mod ClosedTables
-- so does a walk, which has its caller's room
pub mod WalkRides
-- a call that is driven from outside its pass goes as its caller does in the run
pub mod Rides
