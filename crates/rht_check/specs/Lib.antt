-- what a claimed history is: who was answered what, and the entries that stand for it
pub mod Claims
-- what the words of a line stand for
pub mod ClaimLines
-- which bytes are a claimed history, and where other bytes have their first fault
pub mod Reading
-- the commands that each worker has left
pub mod CommandsLeft
-- what an ordered map of ports has at a port, and what a change of one port is
pub mod Updates
-- the verdict on it
pub mod Verdicts
-- the text of a verdict
pub mod Text
-- what follows from the definitions alone
pub mod Laws
