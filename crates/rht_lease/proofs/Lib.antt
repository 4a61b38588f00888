-- the first lease of a port and an owner, in a list of leases
pub mod FirstLeases
-- how answers are kept when one more is
pub mod KeptLists
-- a lease script that is read can be run
pub mod SoundScripts
-- what stands at a place of answers and of workers
pub mod AnswerLines
-- a book, its calls and its answers with one command more
pub mod BookLemmas
-- how a pass gets on by the calls that commands stand for
pub mod ServedCommands
-- a worker with one command more
pub mod WorkedCommands
-- what all workers leave is a run
pub mod LeaseRuns
-- a sweep over a list of leases, with one more
pub mod SweptLeases
-- what follows for books
pub mod BookLaws
-- the calls of one worker, as long as they ended as the model answers them
pub mod ModelledLeases
-- what the model makes of some commands
pub mod WorkedLeases
-- what follows for the calls that commands stand for
pub mod ScriptLaws
