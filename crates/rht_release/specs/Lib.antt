-- a port that was found in a locked bucket
pub mod FoundPort
-- the way to a port, through the tables
pub mod Seek
-- the search for an owner in a port's list
pub mod ListSearch
-- the removal, state by state
pub mod Release
-- what a release holds
pub mod ReleaseHeld
-- the replacement, state by state
pub mod Rebind
-- what a rebind holds
pub mod RebindHeld
-- the listing of owners, state by state
pub mod All
-- what a listing holds
pub mod AllHeld
-- where these stand
pub mod SeekStanding
pub mod ReleaseStanding
pub mod RebindStanding
pub mod AllStanding
