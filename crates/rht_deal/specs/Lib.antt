-- the rule of the queue through which commands are dealt, of numbers alone
pub mod Numbers
-- commands that were done: their numbers, who did them, and how they ended
pub mod DoneCommands
-- when a script was dealt rightly
pub mod Dealing
-- a worker, and what it has done so far
pub mod Workers
-- what workers have done, from which the next command is taken out
pub mod Ordering
-- what follows in the words of commands and workers
pub mod Laws
