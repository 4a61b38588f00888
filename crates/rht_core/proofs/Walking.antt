-- the table of a slot
pub mod SlotsOfTables
-- the table that a walk is in
pub mod TablesOfWalks
-- that it shows the owners that it loads
pub mod OwnersKept
-- that outlives any operation
pub mod OwnersOutlive
-- what a walk knows in each of its states
pub mod WalkFacts
-- the nodes that were shown
pub mod ShownNodes
-- before and behind a bucket
pub mod KnownBuckets
-- at the nodes of a bucket
pub mod KnownChains
-- with one pair more
pub mod KeptPairs
-- how each operation leads on
pub mod WalkLeads
-- and that each owner is shown that was loaded
pub mod OwnersLead
-- what it knows outlives any operation
pub mod WalkOutlives
-- the owners that were loaded
pub mod LoadedOwners
-- what walks know behind an event
pub mod WalksAtEvents
-- and when they end
pub mod EndedWalks
-- in every run
pub mod WalkingRuns
-- calls of a full walk
pub mod FullWalks
-- the events that draw serials
pub mod MadeSerials
-- the law
pub mod ShownLaw
