-- what a book of leases is after each command, and which calls a command stands for
pub mod Books
-- which lease scripts can be run
pub mod Scripts
-- what commands are answered
pub mod Answers
-- how answers are kept
pub mod KeptAnswers
-- what the words of a line stand for
pub mod LeaseLines
-- which bytes are a lease script, and where other bytes have their first fault
pub mod Reading
-- what calls of a book and commands of a worker leave of its pass
pub mod ServedLeases
-- what the commands of all workers leave
pub mod Leasing
-- what the model makes of a worker's commands alone
pub mod Modelled
-- the text of that
pub mod Text
-- what follows from the definitions alone
pub mod Laws
