-- taking a node, giving it back, and writing its words
pub mod NewNodes
-- what loads of a table's words and entries tell
pub mod TableLoads
-- the way to a port's bucket
pub mod Locates
-- the same for a look-up that knows nothing of the tables before
pub mod Reaches
-- the lock of a bucket is dropped
pub mod Locks
-- the operations in a bucket: it is locked and walked
pub mod Probes
-- the caller's read section is opened and closed
pub mod OwnSections
-- the count of ports is raised
pub mod PortCounts
-- along the list of a port's nodes
pub mod Lists
-- behind a store that changes what a port is bound to
pub mod Rebounds
-- a node that a caller has found behind the first one of a port's list
pub mod LaterNodes
-- the stores of a relinking
pub mod Relinks
-- a node is put in front of the list of a port
pub mod ListFronts
-- what the caller that does the work learns by its loads
pub mod WorkLoads
-- the operations of the caller that does the work
pub mod WorkSteps
-- a caller's slots and pages: they are taken, written and given back
pub mod Holdings
-- the pages that the taking and giving back of a run have
pub mod RunPages
-- a run of pages is taken and given back
pub mod PageRuns
-- a page is entered behind an entry, or given back where one is there
pub mod Grows
-- an entry on the way to a port's bucket is one in use, and once it leads to a page the way goes on behind that
pub mod OpenEntries
-- a table is made and given back
pub mod Makes
-- a table that was made is attached, or is to be given back
pub mod Attaches
-- the stores of the work: entries are moved, and tables left behind and retired
pub mod WorkStores
-- section words are kept in the slot of the table that is being retired
pub mod KeepSteps
-- what the caller that does the work learns by its loads while it gives retired tables back
pub mod ReturnLoads
-- and what it does to give them back
pub mod ReturnStores
-- what a call does whose caller holds its section open over its calls
pub mod HeldSections
