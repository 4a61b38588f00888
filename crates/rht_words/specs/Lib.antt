-- a port, and the word that stands for it in a node
pub mod Ports
-- rounding to powers of two, and the size of the first table
pub mod Sizes
-- within which limits the numbers of a geometry lie
pub mod Limits
-- which configs a table can be opened with, and the plain one
pub mod Settled
-- where searches for a free node begin
pub mod Ways
-- the seven operations on one word
pub mod Operations
-- where each thing stands in the list of words
pub mod Places
-- which words of a slot say something of its table
pub mod TableWords
-- what is asked of each operation that a machine plans
pub mod Planned
-- what the links in words say, and what a bucket's word says
pub mod Links
-- how a table's shape is packed into a word
pub mod Shapes
-- what follows from the definitions alone
pub mod Laws
-- the bits of the maps of nodes and pages
pub mod Maps
-- the words of a table that has just been opened
pub mod Opening
-- what comes of a machine that is told one old value after another
pub mod Machines
-- what a call holds between two of its operations
pub mod Held
-- where a caller stands in its read section
pub mod Standing
-- members of lists of numbers, and lists without repeats
pub mod Members
-- the nodes to which a row of links leads
pub mod Chains
