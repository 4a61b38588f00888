-- rounding gives the power of two that lies next
pub mod Rounding
-- the places of different things are different, and all are below the number of words
pub mod PlacesApart
-- which numbers are sizes of tables, and that the first table of a settled config has such a size
pub mod StartingSizes
-- an operation changes the word of its address alone
pub mod WordChanges
-- on which words machines work, and that what they store is a word
pub mod PlannedWords
-- ports and their key words
mod PortWords
-- what links, bucket words and entries say comes back from the words that are made of it, and names nothing that isn't there
pub mod LinksRead
-- the lowest set bit of a map's word stands for one of so many
pub mod LowestBits
-- what a shape is read as is a size
pub mod ShapeSizes
-- what stands in each word of a table that has just been opened
pub mod OpenedWords
-- to set or to clear one bit of a word changes no other bit
pub mod BitChanges
-- what a table finds in its words when it has just been opened
pub mod OpeningLaws
-- the words as a function of what they are there for, and one write to it
pub mod Memory
-- what holds of each element of a list, or of one of them
pub mod EachElement
-- lists without repeats, and how many numbers below a bound have a property
pub mod Members
-- members of lists that pass a test, and of ranges
pub mod FilteredLists
-- what is kept step by step holds at a machine's end
pub mod MachineRuns
-- what the lowest set bit of a map's word says of the others
pub mod FreeBits
-- how segments of chains are cut and joined, and what a store to one link does to them
pub mod ChainLemmas
-- from which word of the node map on a caller looks for a free node
pub mod WordsBegun
