-- what ports are bound to, as every claim speaks of it
pub mod Multimap
-- bindings as a list of pairs, and what `Bindings` keeps
pub mod Listing
-- how the flat vectors of `Bindings` stand for its pairs
pub mod Heads
-- bindings as a plain list of pairs, each a port and one owner
pub mod Pairs
-- what a call answers on bindings, and what it changes
pub mod Answers
-- which kind of call it is
pub mod CallKinds
-- which replies each call may have
pub mod Replies
-- how a call ends
pub mod Endings
-- how `Replies` keeps endings
pub mod KeptReplies
-- a list with a limit, as contracts see a room
pub mod Rooms
-- which lists of entries are legal histories
pub mod Histories
-- what follows from the definitions alone
pub mod Laws
