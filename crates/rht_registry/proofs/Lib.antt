-- one command more of a worker is served
pub mod ServedCalls
-- the commands of a sound script are its workers', and for a table of its kind
pub mod SoundCommands
-- where a worker's next command is, and what is left
pub mod NextCommands
-- parts of a replay, one behind the other
pub mod PlayedParts
-- what is bound at the end has one list
pub mod LastBindings
-- callers who enroll one after another
pub mod Enrolling
-- what an event makes of what the program keeps
pub mod PlayedEvents
-- a replay is a run
pub mod ReplayRuns
-- the end of a replay, and the whole of it
pub mod ReplayEnds
-- a config has one environment
pub mod OneEnvironment
