-- a node's words are written, and nodes are taken and given back
pub mod TakenNodes
-- locks are taken and dropped, and the count is raised and lowered
pub mod Quiet
-- the store that binds a port
pub mod Linking
-- a store that changes what a port is bound to
pub mod Rebinding
-- a store that gives a bucket another chain
pub mod Relinking
-- the stores that take nodes out of chains and lists
pub mod Removing
-- a store that gives a list another rest
pub mod Relisting
-- the store that takes a node out of a list
pub mod ListCuts
-- the store that puts another node into the place of one of a list
pub mod ListSwaps
-- which table is the current one, which are retired, and who does the work
pub mod Standing
-- the work lock
pub mod WorkLocks
-- a table is left behind
pub mod Publishing
-- a store by which an entry is moved
pub mod Reseating
-- an entry goes out of its bucket and into another one
pub mod Departures
-- the bucket that it was in is cut off before it
pub mod CutOffs
-- the moves of the work by what is known before and after them
pub mod Working
-- section words are kept in the slot of a table that is being retired, which is retired then
pub mod Keeping
-- what the work has after its moves
pub mod WorkHoldings
-- slots are taken and given back, and their words are written
pub mod Slots
-- a caller opens its read section and closes it
pub mod Sections
-- pages are taken and given back
pub mod Pages
-- a table is attached behind the last one
pub mod Attaching
-- a page is entered behind an entry
pub mod Entering
-- a page of a retired table is withdrawn
pub mod Withdrawing
-- and such a table leaves its slot
pub mod TakingBack
