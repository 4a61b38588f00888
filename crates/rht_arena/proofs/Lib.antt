-- a node that is answered was free until its operation, and giving back sets one bit
pub mod TakenWereFree
-- whatever words it is told, the taking of a node stays in range
pub mod TakingStays
-- whatever words it is told, a new node is one of the table's
pub mod NewNodesStay
-- on which words the taking, filling and giving back of nodes work
pub mod NodesPlanned
-- what an operation of the taking sees, and what it does
pub mod NodesSeen
-- none is answered exactly where the nodes were seen taken in their turn
pub mod NodesInTurn
-- which operations see two nodes taken in their turn, worked out
pub mod WorkedTurns
-- the words of the node map are looked at one behind the other, each once
pub mod WordsLooked
-- the bits of a run's pages
pub mod RunBits
-- whatever words they are told, the taking and giving back of a run stay in it
pub mod RunsStay
-- on which words the taking and giving back of runs work
pub mod RunsPlanned
-- none is answered exactly where the runs were seen taken in their turn
pub mod RunsSeen
-- a run that is answered was taken page by page
pub mod RunsTaken
-- giving a run back sets the bits of its pages
pub mod RunsGiven
-- what the taking of a run holds changes by its operations
pub mod RunsHeld
