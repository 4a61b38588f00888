-- a caller's batch lies with it or in a tidying, and is one of the table
pub mod BatchesOfCallers
-- how a call begins, and that who is in no call plans no operation
pub mod CallBeginnings
-- what is so of a machine that goes on is so of what its caller does next
pub mod NextDoings
-- the room of owners lies with its caller or in a listing, and that of pairs with it or in a walk; each has a place for each node
pub mod RoomsOfCallers
