-- the steps of all machines as one, for whatever call a caller works at
pub mod Machines
-- what an event does to each caller, what holds in every run of its own, and the invariant
pub mod Events
-- a run with its traces, and what is kept of the operations of each call
pub mod Tracing
-- what the words stand for is what the ghost says
pub mod Meaning
-- nodes taken, the count of ports, and a table that nobody uses
pub mod Counting
-- histories whose entries carry numbers
pub mod Histories
-- the replies of each call, their causes, and the lists of listings
pub mod Reasons
-- the bits that calls turn, and what is left of those that change nothing
pub mod Undoing
-- look-ups without locks
pub mod Finding
-- what is given back, and that no open section could reach it
pub mod Returning
-- what walks show
pub mod Walking
