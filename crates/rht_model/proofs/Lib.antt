-- adding to the flat vectors of `Bindings` adds to the pairs that they stand for
pub mod FlatPairs
-- ports in rising order, from a bound on
pub mod RisingPorts
-- bindings have one listing, and it is that of any ports among which are the bound ones
pub mod OneListing
-- what a call answers and leaves of a port depends on that port alone
pub mod OwnPort
-- bindings with the same owners of each port are told apart by no call
pub mod Agreements
-- a call changes its own port alone, and keeps at most one owner for each in a table that has one each
pub mod CallEffects
-- histories worked out by computation
pub mod WorkedHistories
-- an edit of a plain list of pairs changes its port as the call says
pub mod PlainPairs
-- a history is legal exactly where its parts are, each on what the parts before it leave
pub mod LongerHistories
-- entries whose calls speak of different ports may change places
pub mod PortsApart
-- what an answered and a refused entry leave of the bindings
pub mod Refusals
-- which entries change nothing, and that they may be put in or taken out
pub mod UnchangedBindings
-- an ending that is kept stays as it was when others are
pub mod KeptEndings
-- what becomes of owners that change at the first one of a call
pub mod FirstOwners
-- what a release answers and leaves, by where its owner stands
pub mod ReleasedOwners
-- what a rebind answers and leaves, by where its owner stands
pub mod ReboundOwners
