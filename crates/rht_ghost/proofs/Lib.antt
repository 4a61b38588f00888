-- the theory of a run: ghosts, what is true of them, what callers know, and what one operation makes of it
pub mod Theory
-- what an operation does to words and ghosts, a file a family of moves
pub mod Moves
-- the operations of the pieces of machines
pub mod Pieces
