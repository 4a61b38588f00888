-- what begins at a port that was found is in its bucket
pub mod FoundPortsStay
-- the way to a port stays in its table, and on which words it works
pub mod SeekStays
-- the search of a list stays in its table, and on which words it works
pub mod ListSearchStays
-- whatever words it is told, a release stays in its table
pub mod ReleaseStays
-- on which words a release works
pub mod ReleasePlanned
-- whatever words it is told, a rebind stays in its table
pub mod RebindStays
-- on which words a rebind works
pub mod RebindPlanned
-- whatever words it is told, a listing stays in its table
pub mod AllStays
-- on which words a listing works
pub mod AllPlanned
-- the way to a port
pub mod Seeks
-- along the list of a port's nodes, to the first one with an owner
pub mod ListSearches
-- the stores of a release that take a node out
pub mod ReleaseStores
-- what a release knows in each state
pub mod ReleaseKnowledge
-- its way to its port, and along the list of owners
pub mod ReleaseLists
-- a release, operation by operation
pub mod ReleaseSteps
-- what a rebind knows in each state
pub mod RebindKnowledge
-- the stores of a rebind that put its node in the place of the old one
pub mod RebindStores
-- a rebind, operation by operation
pub mod RebindSteps
-- a listing of owners, operation by operation
pub mod AllSteps
