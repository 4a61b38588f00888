-- a lock is taken by an exchange from an even word alone
pub mod LocksTaken
-- whatever words they are told, the pieces stay in their table
pub mod PiecesStay
-- on which words the pieces work, and that what they store are words
pub mod PiecesPlanned
-- what is to be seen of a chain is its first node with the key
pub mod FirstNodes
-- a walk sees of its chain what is to be seen
pub mod WalksSeen
-- a walk stays in its chain
pub mod WalksStay
-- one store gives a locked bucket another chain
pub mod ChainsRelinked
-- what is worked out from a list of nodes is what is to be seen of them
pub mod ChainsWorkedOut
