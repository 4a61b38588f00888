-- what the words don't say: who holds what, which table each slot has, and which nodes each bucket and each port has
pub mod Ghosts
-- a number's low bits and those above them
pub mod LowBits
-- the way to the word of a bucket of a nested table
pub mod Ways
-- what is true of words and ghosts after each event of each run
pub mod Wholes
-- what follows of the words of buckets and of entries
pub mod Entries
-- a page that is entered
pub mod EnteredPages
-- a nested table without entries that lead on
pub mod BareTables
-- and one that is withdrawn
pub mod WithdrawnPages
-- and the words say of places what the ghost does
pub mod PlacesRead
-- and of the entries at which ways end
pub mod MissingEntries
-- what a caller that goes from table to table has passed
pub mod Passed
-- where the words of buckets and the links of first nodes lead
pub mod SeatedLinks
-- what may be known
pub mod Knowns
-- what each caller knows
pub mod Knowledge
-- where the way to a bucket over entries leads, by the words
pub mod WaysRead
-- what a caller can count on
pub mod Reliance
-- what is known stays where a step leaves what it speaks of: of the way to a bucket, and of all else
pub mod WaysStay
pub mod KnowledgeStays
-- of a table that is given back
pub mod GivingStays
-- and why others leave it
pub mod KnowledgeKept
-- what has to be known where a store binds a port
pub mod Readiness
-- what the work makes of the ghost, and what must be known where it does
pub mod Departures
-- what a step leaves of read sections
pub mod SectionFrames
-- what a step leaves where it writes elsewhere
pub mod Frames
-- and of the parts of the whole
pub mod WholeFrames
-- what a step leaves that changes tables, slots and pages alone
pub mod TableFrames
-- a retired table to which no open section comes
pub mod TablesOver
-- what a step leaves that takes something of such a table
pub mod TablesGone
-- what an operation says about bindings, and what is known of a call's answer
pub mod Answering
-- what a step leaves where tables stay what they are
pub mod TablesUnchanged
-- one operation of a caller, and what it knows afterwards
pub mod Steps
