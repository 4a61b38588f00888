-- what an address owns, as a box
pub mod AsBox
-- what a finished call was answered, and why
pub mod CallEnds
-- a pass that goes on with its call
pub mod GoingOn
-- the callers of a table that has just been opened
pub mod NewCallers
-- and the handles of one
pub mod OpenedHandles
-- a list of one session, or of none
pub mod OneSession
-- a handle stays fit
pub mod FitHandles
-- a room that is written place by place
pub mod ShownLists
-- handles whose sessions are taken out, and put back
pub mod TakenHandles
-- sessions of one table, whose passes are gathered
pub mod ClosedSessions
-- bindings that are written into a room
pub mod WrittenBindings
-- what was told, read back
pub mod ToldApart
-- what a call on a handle leaves
pub mod HandleCalls
