-- where the words lie
pub mod Layout
-- the view of a seat that has given up all it had
pub mod Spent
-- the rule of the table, and what each kind of step makes of views
pub mod Rule
-- what clauses say of a table and its passes
pub mod Passes
-- the memory that a closing takes beforehand
pub mod ClosingSpaces
-- what the operations of a call have to show
pub mod Caused
-- what a tidying makes of its pass's batch
pub mod Tidying
-- how many nodes a pass has that a tidying is to give back
pub mod Untidied
-- what the calls of a command leave
pub mod Served
-- what callers leave that have served commands
pub mod Workers
-- a run that serves the commands of workers
pub mod ServedRuns
-- a call that is driven from outside its pass
pub mod Rides
-- the states of the machines that hold a piece
pub mod PieceFrames
-- pieces that are driven part by part
pub mod Pieces
-- a look-up that is driven part by part
pub mod Looking
-- the way to a port as a piece, and the machines that go it
pub mod Seeks
-- the search for an owner as a piece
pub mod Searches
-- a walk that is driven
pub mod Walking
-- a resizing: its states that hold a piece
pub mod WorkPieces
