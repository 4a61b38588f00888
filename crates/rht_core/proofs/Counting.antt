-- as many ports are bound as there are nodes in chains
pub mod CountedPorts
-- each caller that has raised the count has a node more
pub mod RaisedNodes
-- so the count of ports is at most the nodes
pub mod CountedNodes
-- the numbers below a bound that have a property
pub mod NumbersBelow
-- the nodes that calls have taken out of ports' lists
pub mod NodesOut
-- while nobody is in a call the nodes that are out are those in the callers' batches
pub mod BatchedNodes
-- in every run a bind or a rebind takes one node at most, and no other call takes one
pub mod NodesTaken
-- which callers have raised the count, by what their jobs hold
pub mod RaisingCallers
-- what each operation does to that and to what is bound
pub mod StepsAhead
-- so a call by which the count is ahead shows it by its operations
pub mod AheadCalls
-- a count of ports that is loaded is no less than the ports bound, and at most these and the other callers
-- in mid-call
pub mod FullTables
-- the nodes that calls took are no more than the calls
pub mod CoveredNodes
-- where a call found no node, as many calls as there are nodes took one
pub mod NodesUsed
-- the pages of a table, as the words have them
pub mod TablePages
-- the words of buckets that nobody has locked
pub mod RestingBuckets
-- each node of a table in force lies in the bucket of its own key
pub mod PlacedNodes
-- and each table has its pages for itself
pub mod OwnPages
-- and free pages are blank
pub mod FreePages
-- a table whose ports all lie in one bucket is refused, and two that have one page
pub mod WorkedPlaces
-- the count of ports, and a table that nobody uses
pub mod CountedRuns
-- where one of the calls that serve commands found no node, more commands need one than there are nodes
pub mod OutnumberedNodes
-- which operations leave the words of all slots
pub mod SparedSlots
-- in a run with few ports no table is made
pub mod FewPorts
-- what a resizing and a bind make, and what they attach
pub mod MakingWorks
pub mod MakingBinds
pub mod MakingJobs
-- what is true of shapes by which tables are made is so of all
pub mod GoodShapes
-- which jobs attach a table
pub mod AttachingJobs
-- no table is nested, or smaller than 16 buckets, where the first one isn't, shrinking is off and binds attach none
pub mod SizedTables
-- in a run of one caller with fewer than 16 ports no bind is refused because a table is full
pub mod OneCaller
-- in runs each table has a good shape, where the first one has, and good shapes lead to good ones
pub mod GoodRuns
-- no table is smaller than the least size or greater than the greatest one
pub mod BoundedTables
-- which operation draws a serial, and which draw a job has
pub mod SerialDraws
pub mod DrawnJobs
-- what one operation makes of the draws of serials
pub mod StepDraws
-- in every run each table has a draw of its own
pub mod TableDraws
pub mod DrawnRuns
pub mod NumberedTables
-- what is true of each table in force
pub mod TablesInRuns
